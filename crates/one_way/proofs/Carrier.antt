-- A carrier's message, and that his IFT stands in group 9 and nowhere else. Assumes nothing.
use Rattle.std.specs.Prelude.{◌≡◌, refl, true, [], ◌∷◌, map}
use Rattle.std.proofs.Common.{sym, ◌∙◌}
use Rattle.placing.specs.Table.{entry_of, after_of, end_of, places_on}
use Rattle.placing.specs.Rule.{reachable, again, later_ones, choices_from, choices}
use Rattle.messages.specs.Tags.{PRD, POP, ODI, PDT, IFT, TRF, TFF, ASD, SER, UIT}
use Rattle.placing.specs.Skdupd.{skdupd_table}
use Rattle.one_way.specs.Arrangement.{Arrangement, times_of, is_arranged, is_arrangement, tags_of, where_in, standings}
use Rattle.one_way.specs.Drawing.{skip}
use Rattle.one_way.specs.Test.{first_time, tag_of}
use Rattle.one_way.proofs.Tables.{skdupd_one_way}
use Rattle.one_way.proofs.Theorems.{at_most_one}
use Rattle.one_way.specs.Carrier.{carriers, pair, period, service, drawn, carriers_places}

pub drawn_arranged : is_arrangement skdupd_table drawn ≡ true
unfolding is_arranged times_of skip pair period service drawn places_on after_of entry_of skdupd_table
drawn_arranged = refl

pub drawn_tags : tags_of drawn ≡ carriers
unfolding tags_of skip pair period service drawn
drawn_tags = refl

-- it is the only one
pub carriers_only : (a : Arrangement) → is_arrangement skdupd_table a ≡ true → tags_of a ≡ carriers → a ≡ drawn
carriers_only a v e = at_most_one skdupd_table skdupd_one_way.table.well skdupd_one_way.one a drawn v drawn_arranged (e ∙ sym drawn_tags)

pub drawn_standings : standings skdupd_table drawn ≡ carriers_places
unfolding where_in skip pair period service drawn places_on after_of entry_of skdupd_table
drawn_standings = refl

-- what may follow his ODI, by tag: of these ten only one is IFT
pub after_odi : map (tag_of skdupd_table) (choices skdupd_table (first_time skdupd_table 45)) ≡ PDT ∷ IFT ∷ TRF ∷ TFF ∷ ASD ∷ SER ∷ ODI ∷ POP ∷ PRD ∷ UIT ∷ []
unfolding choices_from again later_ones reachable places_on after_of end_of entry_of skdupd_table
after_odi = refl
