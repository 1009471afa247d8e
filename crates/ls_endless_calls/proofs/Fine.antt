-- States that are fine, one after another, while numbers are added.
use Rattle.std.proofs.Common.{◌≡◌, ◌⊎◌, inl, inr, ℕ, ◌+◌, ◌<◌, ◌≤◌, Bool, List, Some, ap, ◌∙◌, subst, arith}
use Rattle.std.specs.Prelude.{slice_get}
use Rattle.std.proofs.lemmas.Bool.{cases_lt}
use Rattle.ls_transitions.specs.Tables.{Grows, Table}
use Rattle.ls_search.specs.declared.places.Node.{Node}
use Rattle.ls_search.specs.declared.places.Seen.{Seen}
use Rattle.ls_search.proofs.Strides.{there_still}
use Rattle.ls_endless_calls.specs.Breaking.{AreFine, AreThere, IsFine}
use Rattle.ls_endless_calls.proofs.Ahead.{break_before}

pub there_later : (old new : Table) (nodes : List Node) (threads : ℕ) → Grows old new → AreThere old nodes threads →
    AreThere new nodes threads
there_later old new nodes threads grows are at node is =
    let one = are at node is in
    (there_still old new node.place.store node.place.works.items grows one.0, one.1)

module _ (old new : Table) (excused : List Bool) (seen : List Seen) (nodes : List Node) (threads : ℕ)
    (are : AreThere old nodes threads) (grows : Grows old new) where
  before : (at : ℕ) (node : Node) → slice_get nodes at ≡ Some node → IsFine new.file threads new excused seen at node →
      IsFine old.file threads old excused seen at node
  before at node is (inl still) = inl still
  before at node is (inr (inl flag)) = inr (inl flag)
  before at node is (inr (inr breaks)) =
      inr (inr (break_before threads old new node.place grows (are at node is).0 breaks))

  -- one more
  pub fine_more : (at : ℕ) → AreFine old.file threads old excused seen nodes at →
      ((node : Node) → slice_get nodes at ≡ Some node → IsFine new.file threads new excused seen at node) →
      AreFine old.file threads old excused seen nodes (at + 1)
  fine_more at first one i node less is = by_place (cases_lt i at)
    where
      by_place : (i < at) ⊎ (at ≤ i) → IsFine old.file threads old excused seen i node
      by_place (inl lt) = first i node lt is
      by_place (inr past) =
          let same : at ≡ i = omega (arith, past, less) in
          subst (λ n. IsFine old.file threads old excused seen n node) same
          (before at node (ap (slice_get nodes) same ∙ is) (one node (ap (slice_get nodes) same ∙ is)))

pub none_fine : (threads : ℕ) (t : Table) (excused : List Bool) (seen : List Seen) (nodes : List Node) →
    AreFine t.file threads t excused seen nodes 0
none_fine threads t excused seen nodes at node less is = absurd (omega (arith, less))
