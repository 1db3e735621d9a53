-- Drawings that are arrangements of SKDUPD and drawings that are none, and where the placing rule puts the carrier's segments, computed. Assumes nothing.
use Rattle.std.specs.Prelude.{◌≡◌, refl, true, false, [], ◌∷◌}
use Rattle.messages.specs.Tags.{UIH, MSD, ORG, HDR, PRD, POP, ODI, TRF, IFT, UIT}
use Rattle.placing.specs.Table.{entry_of, after_of, end_of, places_on}
use Rattle.placing.specs.Rule.{reachable, first_fit, in_group, again, later_ones, choices_from, first_of, step_of}
use Rattle.placing.specs.Skdupd.{skdupd_table}
use Rattle.one_way.specs.Arrangement.{segment, group, Times, nothing, ◌&◌, Arrangement, end, ◌▸◌, times_of, is_arranged, is_arrangement, where_in, standings}
use Rattle.one_way.specs.Drawing.{alone, once, skip}
use Rattle.one_way.specs.Placings.{walked, first_choices, first_place, placings, all_placed, where_on, where_placed}
use Rattle.one_way.specs.Carrier.{carriers, pair, period, service, drawn}

-- what stands at MSD, at ORG, at HDR and at group 2 of a message
abbrev message : Times → Times → Times → Times → Arrangement
message msd org hdr services = alone UIH ▸ msd ▸ org ▸ hdr ▸ skip 3 (services ▸ alone UIT ▸ end)

-- "a group with its own places", as often as its number allows
pub two_services : is_arrangement skdupd_table (message (alone MSD) (alone ORG) (alone HDR) (group service & once service)) ≡ true
unfolding is_arranged times_of skip pair period service places_on after_of entry_of skdupd_table
two_services = refl

-- "within its greatest number": MSD stands once
pub msd_twice : is_arrangement skdupd_table (message (segment MSD & alone MSD) (alone ORG) (alone HDR) (once service)) ≡ false
unfolding is_arranged times_of skip pair period service places_on after_of entry_of skdupd_table
msd_twice = refl

-- "not empty where mandatory": ORG, group 2, and in a group its trigger
pub no_org : is_arrangement skdupd_table (message (alone MSD) nothing (alone HDR) (once service)) ≡ false
unfolding is_arranged times_of skip pair period service places_on after_of entry_of skdupd_table
no_org = refl

pub no_service : is_arrangement skdupd_table (message (alone MSD) (alone ORG) (alone HDR) nothing) ≡ false
unfolding is_arranged times_of skip places_on after_of entry_of skdupd_table
no_service = refl

pub no_trigger : is_arrangement skdupd_table (message (alone MSD) (alone ORG) (alone HDR) (once (skip 8 (once period ▸ end)))) ≡ false
unfolding is_arranged times_of skip pair period places_on after_of entry_of skdupd_table
no_trigger = refl

-- "a segment with the place's tag", and no segment in place of a group, no group in place of a segment
pub other_tag : is_arrangement skdupd_table (message (alone MSD) (alone ORG) (alone IFT) (once service)) ≡ false
unfolding is_arranged times_of skip pair period service places_on after_of entry_of skdupd_table
other_tag = refl

pub segment_for_group : is_arrangement skdupd_table (message (alone MSD) (alone ORG) (alone HDR) (alone PRD)) ≡ false
unfolding is_arranged times_of skip places_on after_of entry_of skdupd_table
segment_for_group = refl

pub group_for_segment : is_arrangement skdupd_table (message (once (alone MSD ▸ end)) (alone ORG) (alone HDR) (once service)) ≡ false
unfolding is_arranged times_of skip pair period service places_on after_of entry_of skdupd_table
group_for_segment = refl

-- "for each place": one too few, one too many
pub place_missing : is_arrangement skdupd_table (alone UIH ▸ alone MSD ▸ alone ORG ▸ alone HDR ▸ skip 2 (once service ▸ alone UIT ▸ end)) ≡ false
unfolding is_arranged times_of skip pair period service places_on after_of entry_of skdupd_table
place_missing = refl

pub place_more : is_arrangement skdupd_table (alone UIH ▸ alone MSD ▸ alone ORG ▸ alone HDR ▸ skip 3 (once service ▸ alone UIT ▸ nothing ▸ end)) ≡ false
unfolding is_arranged times_of skip pair period service places_on after_of entry_of skdupd_table
place_more = refl

-- the placing rule, step by step, puts the carrier's segments where they are drawn
pub carriers_placed : where_placed skdupd_table carriers ≡ standings skdupd_table drawn
unfolding where_in skip pair period service drawn where_on placings first_place first_choices walked step_of first_of choices_from again later_ones reachable first_fit in_group places_on after_of end_of entry_of skdupd_table
carriers_placed = refl

-- and finds no place for an IFT behind the TRF of group 9
pub late_text : all_placed skdupd_table (UIH ∷ MSD ∷ ORG ∷ HDR ∷ PRD ∷ POP ∷ ODI ∷ TRF ∷ IFT ∷ UIT ∷ []) ≡ false
unfolding placings first_place first_choices walked step_of first_of choices_from again later_ones reachable first_fit in_group places_on after_of end_of entry_of skdupd_table
late_text = refl
