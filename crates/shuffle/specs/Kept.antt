-- What a call leaves of a good account is a good account again.
-- Assumes nothing.
use Rattle.std.specs.Prelude.{◌≡◌, true}
use Rattle.contents.specs.Contents.{good_account}
use Rattle.contents.specs.Calls.{View, release_of}
use Rattle.rooms.specs.Settled.{released_good, withdrawn_good}
use Rattle.stages.specs.Kept.{stage_kept}
use Rattle.shuffle.specs.Register.{Ask, stage, release, withdraw, show, records_by}

pub keeps : (x : Ask) (v : View) → good_account v.quota v.records ≡ true → good_account v.quota (records_by x v) ≡ true
unfolding release_of
keeps (stage wish s) v g = stage_kept wish s v g
keeps release v g = released_good v.quota v.records g
keeps (withdraw x) v g = withdrawn_good v.quota x v g
keeps (show k out) v g = g
