-- States that are looked at, one after another.
use Rattle.std.proofs.Common.{◌≡◌, ℕ, ◌+◌, ◌<◌, ◌≤◌, List, [], ◌∷◌, ◌++◌, length, Option, Some, sym, ap}
use Rattle.std.proofs.Common.{◌∙◌, subst, arith}
use Rattle.std.specs.Prelude.{IfSome, slice_get}
use Rattle.ls_events.specs.declared.event.Event.{Event}
use Rattle.ls_checked.specs.CheckedTree.{File}
use Rattle.ls_checked.specs.CheckedProgram.{Program}
use Rattle.ls_search.specs.declared.places.Looked.{Looked}
use Rattle.ls_search.specs.declared.places.Seen.{Seen}
use Rattle.ls_search.specs.Searched.{AreExpanded, IsExpanded, IsLooked, seen_with}
use Rattle.ls_search.proofs.Sounding.{all_expanded_more, all_expanded_stay, expanded_more, expanded_stays}
use Rattle.std.proofs.lemmas.List.{length-map}
use Rattle.ls_search_laws.specs.Noticing.{Noticed}
use Rattle.ls_transitions.specs.Tables.{Table, Keeps}
use Rattle.ls_transitions.proofs.Keeping.{there}
use Rattle.ls_search.specs.declared.places.Node.{Node}
use Rattle.ls_search.specs.Searched.{noticed_at, pairs_at}
use Rattle.ls_search.proofs.Pairs.{keeps_longer}

-- what stands at a place that was there stood there before
pub same_there : {A : Type 0} (xs ys : List A) (at : ℕ) (x : A) → Keeps xs ys → at < length xs →
    slice_get ys at ≡ Some x →
    slice_get xs at ≡ Some x
same_there xs ys at x keeps within e =
    let was = there xs at within in
    was.1 ∙ sym (keeps at was.0 was.1) ∙ e

pub pairs_length : {S : Type 0} (first : S) (t : Table) (states : List S) (nodes : List Node) →
    length (pairs_at first t states nodes) ≡ length nodes
pairs_length first t states nodes = length-map nodes (λ (n : Node). noticed_at first t states n.place)

-- there are no fewer states
pub longer : {S : Type 0} (first : S) (t t' : Table) (states states' : List S) (nodes nodes' : List Node) →
    Keeps (pairs_at first t states nodes) (pairs_at first t' states' nodes') →
    length nodes ≤ length nodes'
longer first t t' states states' nodes nodes' keeps =
    let more = keeps_longer (pairs_at first t states nodes) (pairs_at first t' states' nodes') keeps in
    omega (arith, more, pairs_length first t states nodes, pairs_length first t' states' nodes')

of_some : {A : Type 0} (P : A → Type 0) (o : Option A) (a : A) → o ≡ Some a → IfSome o P → P a
of_some P o a is h = subst (λ x. IfSome x P) is h

module _ {S : Type 0} (first : S) (next : S → Event → S) (file : File) (program : Program) (threads at : ℕ)
    (old new : List (Noticed S)) (keeps : Keeps old new) (within : at < length old) where
  -- one thread more
  pub here_more : (thread : ℕ) (p : Noticed S) (seen seen' : Seen) (o : Option Looked) (l : Looked) →
      IsExpanded first next file program old thread p seen →
      o ≡ Some l →
      IfSome o (λ k. (q : Noticed S) → slice_get old at ≡ Some q → IsLooked first next file program new q thread k) →
      slice_get old at ≡ Some p →
      seen' ≡ seen_with seen l →
      IsExpanded first next file program new (thread + 1) p seen'
  here_more thread p seen seen' o l h is looked here with_more =
      let seen_so : IsLooked first next file program new p thread l =
      of_some (λ k. (q : Noticed S) → slice_get old at ≡ Some q → IsLooked first next file program new q thread k) o l
      is
      looked p here in
      subst (IsExpanded first next file program new (thread + 1) p) (sym with_more)
      (expanded_more first next file program new thread p seen
      (expanded_stays first next file program old new thread p seen keeps h) l seen_so)

  module _ (known known' : List Seen) (count : length known ≡ at) (same : known' ≡ known)
      (h : AreExpanded first next file program old threads known) where
    -- what was known of the states before
    pub expanded_cut : AreExpanded first next file program new threads known'
    expanded_cut =
        subst (AreExpanded first next file program new threads) (sym same)
        (all_expanded_stay first next file program old new threads known keeps (omega (arith, count, within)) h)

    -- and what is known of the one after these
    pub expanded_end : (thread : ℕ) (seen : Seen) (all : List Seen) → all ≡ known' ++ seen ∷ [] → thread ≡ threads →
        ((p : Noticed S) → slice_get old at ≡ Some p → IsExpanded first next file program new thread p seen) →
        AreExpanded first next file program new threads all
    expanded_end thread seen all more last here =
        let was = there old at within in
        all_expanded_more first next file program new threads known all was.0 seen
        (more ∙ ap (λ l. l ++ seen ∷ []) same)
        (ap (slice_get new) count ∙ keeps at was.0 was.1)
        (subst (λ k. IsExpanded first next file program new k was.0 seen) last (here was.0 was.1))
        (all_expanded_stay first next file program old new threads known keeps (omega (arith, count, within)) h)
