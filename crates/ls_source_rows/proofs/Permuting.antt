-- What rows tell in another order.
use Rattle.std.proofs.Common.{◌≡◌, List, IsPermutation, Vec, Global, map, subst}
use Rattle.std.specs.Prelude.{Contains}
use Rattle.std.proofs.lemmas.List.Sorted.{Contains-permutation, IsPermutation-sym}
use Rattle.ls_events.specs.declared.event.Event.{Event}
use Rattle.ls_search.specs.declared.places.Node.{Node}
use Rattle.ls_search.specs.declared.places.Seen.{Seen}
use Rattle.ls_source_rows.specs.Listed.{HasEndOf, IsBegunBy, TellListed}
use Rattle.ls_source_rows.specs.declared.rows.Row.{Row}
use Rattle.ls_source_rows.proofs.Order.{apart_kept}

module _ (histories : List (List Event)) (nodes : List Node) (seen : List Seen) (old new : List Row)
    (order : IsPermutation old new) where
  still : (r : Row) → Contains old r → Contains new r
  still r c = Contains-permutation old new r order c

  was : (r : Row) → Contains new r → Contains old r
  was r c = Contains-permutation new old r (IsPermutation-sym old new order) c

  ended_still : (n : Node) → HasEndOf histories nodes seen old n → HasEndOf histories nodes seen new n
  ended_still n h = record { row = h.row; there = still h.row h.there; history = h.history; ends = h.ends }

  begun_still : (n : Node) → IsBegunBy histories nodes seen old n → IsBegunBy histories nodes seen new n
  begun_still n h = record {
    row = h.row;
    there = still h.row h.there;
    history = h.history;
    is = h.is;
    begins = h.begins;
  }

  pub listed_sorted : TellListed histories nodes seen old → TellListed histories nodes seen new
  listed_sorted h = record {
    own = λ r c. h.own r (was r c);
    ended = λ at n s here known acts. ended_still n (h.ended at n s here known acts);
    covers = λ at n here. begun_still n (h.covers at n here);
    alone = λ r s c d unended begins. h.alone r s (was r c) (was s d) unended begins;
    apart = apart_kept old new order h.apart;
  }

-- of the same lists
pub listed_lent : (values values' : List (Vec Event Global)) (nodes nodes' : List Node) (seen seen' : List Seen)
    (rows : List Row) → values' ≡ values → nodes' ≡ nodes → seen' ≡ seen →
    TellListed (map (λ v. v.items) values') nodes' seen' rows →
    TellListed (map (λ v. v.items) values) nodes seen rows
listed_lent values values' nodes nodes' seen seen' rows lent_values lent_nodes lent_seen h =
    subst (λ (l : List (Vec Event Global)). TellListed (map (λ v. v.items) l) nodes seen rows) lent_values
    (subst (λ (l : List Node). TellListed (map (λ v. v.items) values') l seen rows) lent_nodes
    (subst (λ (l : List Seen). TellListed (map (λ v. v.items) values') nodes' l rows) lent_seen h))
