-- `write_table` meets its contract.
-- Assumes nothing.
use mathlib.Core.Path.{sym, ◌∙◌}
use native.Mathlib.Omega.{arith}
use Rattle.text.specs.Laws.{table_short, table_refused, table_room, table_written}
use Rattle.text.proofs.write_table.Goals as goal

pub returns-then-out-lt17 : goal.returns-then-out-lt17
returns-then-out-lt17 c =
    let a = c.args in record { told = (table_short a.n a.rows.now a.out.now c.if-out-lt17.true).0; left = (table_short a.n a.rows.now a.out.now c.if-out-lt17.true).1 }

pub returns-then-not-fits : goal.returns-then-not-fits
returns-then-not-fits c =
    let a = c.args in record { told = (table_refused a.n a.rows.now a.out.now (omega arith) (sym c.fits.ensures ∙ c.if-not-fits.true)).0; left = (table_refused a.n a.rows.now a.out.now (omega arith) (sym c.fits.ensures ∙ c.if-not-fits.true)).1 }

pub put_rows-requires : goal.put_rows-requires
put_rows-requires c =
    let a = c.args in
    table_room a.n a.rows.now a.out.now (omega arith) (sym c.fits.ensures ∙ c.if-not-fits.false) c.put_bytes.ensures.1

pub returns : goal.returns
returns c =
    let a = c.args in record { told = (table_written a.n a.rows.now a.out.now c.put_bytes.new.out c.put_rows.new.out c.put_rows.result (omega arith) (sym c.fits.ensures ∙ c.if-not-fits.false) c.put_bytes.ensures.1 c.put_rows.ensures.told c.put_rows.ensures.left).0; left = (table_written a.n a.rows.now a.out.now c.put_bytes.new.out c.put_rows.new.out c.put_rows.result (omega arith) (sym c.fits.ensures ∙ c.if-not-fits.false) c.put_bytes.ensures.1 c.put_rows.ensures.told c.put_rows.ensures.left).1 }
