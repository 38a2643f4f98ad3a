-- `listing_pairs::keeping::keep_boxes` meets its contract: the boxes of the segments, those of their groups, and those of groups
-- of groups, one behind the other.
use borrow.Author.Rules.{rules}
use Rattle.listing_pairs.specs.Workings.Keeping.{boxes-stored}
use Rattle.listing_pairs.proofs.keeping.keep_boxes.Statement.{statement}
use Rattle.listing_pairs.proofs.keeping.keep_boxes.Tie as tie

returns : tie.Need-returns
returns c =
    boxes-stored _ _ _ _ _ _ _ _ c.requires.1.1 c.keep_segment_boxes.ensures c.store_groups.ensures
    c.group_count-groups.ensures c.store_groups-2.ensures

pub keep_boxes_spec : {M : Type 1} → statement M
keep_boxes_spec =
    tie.close
    (tie.spec
    (λ c κs. search rules) (λ c. search rules) (λ c κs. search rules) (λ c κs. search rules) (λ c. search rules)
    (λ c κs. search rules)
    (λ c. search rules) returns)
