-- The zeros below the lowest digit of a number that is made of bytes.
-- Assumes nothing.
use Rattle.std.specs.Prelude.{◌≡◌, refl, List, [], ◌∷◌, ℕ, suc, ◌+◌, ◌*◌, ◌/◌, ◌%◌}
use Rattle.std.proofs.Common.{arith}
use Rattle.std.specs.Int.Count.{count_trailing_zeros}

-- how many binary digits a list of bytes has
abbrev pub digits_of : List ℕ → ℕ
digits_of [] = 0
digits_of (b ∷ l) = suc (suc (suc (suc (suc (suc (suc (suc (digits_of l))))))))

zeros_even : (k n m : ℕ) → m ≡ n * 2 → count_trailing_zeros (suc k) m ≡ suc (count_trailing_zeros k n)
unfolding count_trailing_zeros
zeros_even k n m e =
    let a : m % 2 ≡ 0 = omega arith in
    let b : m / 2 ≡ n = omega arith in
    rw (a, b)

zeros_odd : (k n m : ℕ) → m ≡ n * 2 + 1 → count_trailing_zeros (suc k) m ≡ 0
unfolding count_trailing_zeros
zeros_odd k n m e =
    let a : m % 2 ≡ 1 = omega arith in
    rw a

-- a byte that is 0, and one of which only the highest digit is set
pub zeros_pass : (k w : ℕ) → count_trailing_zeros (suc (suc (suc (suc (suc (suc (suc (suc k)))))))) (w * 256 + 0) ≡ 8 + count_trailing_zeros k w
zeros_pass k w =
    let a = zeros_even (suc (suc (suc (suc (suc (suc (suc k))))))) (w * 128) (w * 256 + 0) (omega arith) in
    let b = zeros_even (suc (suc (suc (suc (suc (suc k)))))) (w * 64) (w * 128) (omega arith) in
    let c = zeros_even (suc (suc (suc (suc (suc k))))) (w * 32) (w * 64) (omega arith) in
    let d = zeros_even (suc (suc (suc (suc k)))) (w * 16) (w * 32) (omega arith) in
    let e = zeros_even (suc (suc (suc k))) (w * 8) (w * 16) (omega arith) in
    let f = zeros_even (suc (suc k)) (w * 4) (w * 8) (omega arith) in
    let g = zeros_even (suc k) (w * 2) (w * 4) (omega arith) in
    let h = zeros_even k w (w * 2) refl in
    omega arith

pub zeros_stop : (k w : ℕ) → count_trailing_zeros (suc (suc (suc (suc (suc (suc (suc (suc k)))))))) (w * 256 + 128) ≡ 7
zeros_stop k w =
    let a = zeros_even (suc (suc (suc (suc (suc (suc (suc k))))))) (w * 128 + 64) (w * 256 + 128) (omega arith) in
    let b = zeros_even (suc (suc (suc (suc (suc (suc k)))))) (w * 64 + 32) (w * 128 + 64) (omega arith) in
    let c = zeros_even (suc (suc (suc (suc (suc k))))) (w * 32 + 16) (w * 64 + 32) (omega arith) in
    let d = zeros_even (suc (suc (suc (suc k)))) (w * 16 + 8) (w * 32 + 16) (omega arith) in
    let e = zeros_even (suc (suc (suc k))) (w * 8 + 4) (w * 16 + 8) (omega arith) in
    let f = zeros_even (suc (suc k)) (w * 4 + 2) (w * 8 + 4) (omega arith) in
    let g = zeros_even (suc k) (w * 2 + 1) (w * 4 + 2) (omega arith) in
    let h = zeros_odd k w (w * 2 + 1) refl in
    omega arith
