-- Where ranks sink along the edges of the graph of a program's states, calls are bounded.
use Rattle.std.proofs.Common.{◌≡◌, ◌⊎◌, inl, inr, ℕ, ◌+◌, ◌≤◌, ◌<◌, Bool, true, false, List, [], Option, Some}
use Rattle.std.proofs.Common.{fold, length}
use Rattle.std.proofs.Common.{refl, sym, ap, ◌∙◌, subst, arith}
use Rattle.std.specs.Prelude.{nat_eq, slice_get, if◌then◌else◌}
use Rattle.std.proofs.lemmas.Bool.{cases_lt}
use Rattle.std.proofs.lemmas.Bool.Decides.{nat_tests}
use Rattle.ls_checked.specs.CheckedTree.{File}
use Rattle.ls_graph.specs.Graph.{HasEdge, IsTold, IsWhole}
use Rattle.ls_graph.specs.declared.closing.Edge.{Edge}
use Rattle.ls_graph.proofs.Lists.{below, some_is}
use Rattle.ls_meaning.specs.declared.step.Did.{Did}
use Rattle.ls_meaning.specs.declared.step.Did.TheVariants as did
use Rattle.ls_meaning.specs.Still.{IsActing}
use Rattle.ls_search_laws.specs.Configuration.{Configuration, stride}
use Rattle.ls_search_laws.specs.Stepping.{events_of}
use Rattle.ls_progress_laws.specs.Laws.{IsClosed, IsRanked, Leads}
use Rattle.ls_progress_laws.specs.Progress.{Kind, counted, own, pending_after}
use Rattle.ls_progress_laws.specs.From.{IsBoundedFrom}
use Rattle.ls_progress_laws.proofs.Others.{other_same}
use Rattle.ls_progress_laws.proofs.Ranks.{ranks_bound}
use Rattle.ls_progress.specs.Kinds.{is_kept, is_own}
use Rattle.ls_progress.specs.Labels.{AreLabels, label_after, label_at}
use Rattle.ls_progress.specs.Ranks.{AreRanks, IsHighest, Sinks, rank_at}
use Rattle.ls_progress.specs.Sorts.{call_after, sort_at}
use Rattle.ls_progress.specs.Steps.{IsStates, Rests, StepsTo}
use Rattle.ls_progress.proofs.Sorted.{sorted}
use Rattle.ls_progress.proofs.Walking.{as_other, not_kept}

module _ (file : File) (threads : ℕ) (root : Configuration) (edges : List Edge) (count : ℕ) (looked : List Bool)
    (found : IsStates file threads root edges count looked) where
  abbrev states : List Configuration
  states = found.states

  -- ---- the edge of a thread's step

  pub record Edged (at : ℕ) (c : Configuration) (u : ℕ) : Type 0 where
    pub place : ℕ
    pub edge : Edge
    pub there : slice_get edges place ≡ Some edge
    pub from_is : edge.from ≡ at
    pub actor_is : edge.actor ≡ u
    pub other : Configuration
    pub to_here : slice_get states edge.to ≡ Some other
    pub steps : StepsTo file c u edge.mark other

  edge_of : (at : ℕ) (c : Configuration) (u : ℕ) → slice_get states at ≡ Some c → HasEdge edges at u → Edged at c u
  edge_of at c u here h =
      let is = found.graph.led h.place h.edge h.here in
      let same : is.one ≡ c = some_is (sym is.here ∙ ap (slice_get states) h.from_is ∙ here) in
      record {
        place = h.place;
        edge = h.edge;
        there = h.here;
        from_is = h.from_is;
        actor_is = h.actor_is;
        other = is.other;
        to_here = is.there;
        steps = subst (λ v. StepsTo file c v h.edge.mark is.other) h.actor_is
            (subst (λ k. StepsTo file k h.edge.actor h.edge.mark is.other) same is.leads);
      }

  module _ (whole : IsWhole count looked) where
    -- each thread does nothing there, or has an edge
    pub edged : (at : ℕ) (c : Configuration) (u : ℕ) → slice_get states at ≡ Some c → Rests file c u ⊎ Edged at c u
    edged at c u here = by_thread (cases_lt u (threads))
      where
        by_edge : IsTold (Rests file) (λ k. ⊥) edges at c u → Rests file c u ⊎ Edged at c u
        by_edge (inl rests) = inl rests
        by_edge (inr h) = inr (edge_of at c u here h)

        by_thread : (u < threads) ⊎ (threads ≤ u) → Rests file c u ⊎ Edged at c u
        by_thread (inl less) =
            let inside = below states at c here in
            let all = found.many in
            let told = found.graph.told at (whole at (omega (arith, inside, all))) in
            by_edge ((told.1 c here).told u less)
        by_thread (inr past) = inl (found.others at c here u past)

    not_idle : (d : Did) → IsActing d → d ≡ did.Idle → ⊥
    not_idle d acts e = subst IsActing e acts

    abbrev acting : (at : ℕ) (c : Configuration) (u : ℕ) → IsActing (stride file c u).did →
        Rests file c u ⊎ Edged at c u →
        Edged at c u
    acting at c u acts (inl rests) = absurd (not_idle (stride file c u).did acts rests)
    acting at c u acts (inr e) = e

    abbrev edge_at : (at : ℕ) (c : Configuration) → slice_get states at ≡ Some c → (u : ℕ) →
        IsActing (stride file c u).did →
        Edged at c u
    edge_at at c here u acts = acting at c u acts (edged at c u here)

    abbrev leads_by : (at : ℕ) (c : Configuration) (u : ℕ) → Edged at c u → Leads states (stride file c u).after
    leads_by at c u e = record {
      to = e.edge.to;
      one = e.other;
      here = e.to_here;
      other = as_other e.other (stride file c u).after e.steps.other;
    }

    module _ (kind : Kind) (labels : List (Option ℕ)) (labelled : AreLabels kind.thread edges labels) where
      follows_by : (at : ℕ) (c : Configuration) (u : ℕ) (e : Edged at c u) →
          label_at labels e.edge.to ≡
          fold (pending_after kind.thread) (label_at labels at) (events_of u (stride file c u).did)
      follows_by at c u e =
          let is = sorted (stride file c u).did (sort_at e.edge.mark) e.steps.sort in
          labelled.each e.place e.edge e.there
          ∙ ap (λ n. label_after kind.thread e.edge (label_at labels n)) e.from_is
          ∙ ap (λ (v : ℕ). if nat_eq v kind.thread then call_after (sort_at e.edge.mark) (label_at labels at)
          else label_at labels at) e.actor_is
          ∙ sym (is.pends u kind.thread (label_at labels at))

      abbrev closed : IsClosed kind.thread file states (label_at labels)
      closed = record {
        leads = λ at c here u acts. leads_by at c u (edge_at at c here u acts);
        follows = λ at c here u acts. follows_by at c u (edge_at at c here u acts);
      }

      module _ (call : ℕ) (ranks : List ℕ) (most : ℕ) (sinking : AreRanks kind edges labels call ranks)
          (high : IsHighest labels call ranks most) where
        kept_of : (at : ℕ) (c : Configuration) (u : ℕ) (e : Edged at c u) → kind.may u ≡ true →
            (kind.quiet u ≡ true → events_of u (stride file c u).did ≡ []) →
            (b : Bool) →
            is_kept kind e.edge ≡ b →
            is_kept kind e.edge ≡ true
        kept_of at c u e may quiet true is = is
        kept_of at c u e may quiet false is =
            let off = not_kept kind e.edge is (subst (λ v. kind.may v ≡ true) (sym e.actor_is) may) in
            let s = sorted (stride file c u).did (sort_at e.edge.mark) e.steps.sort in
            absurd (s.loud off.1 u (quiet (subst (λ v. kind.quiet v ≡ true) e.actor_is off.0)))

        sunk_by : (at : ℕ) (c : Configuration) (u : ℕ) (e : Edged at c u) → Sinks kind.thread ranks e.edge →
            (b : Bool) →
            is_own kind.thread e.edge ≡ b →
            own kind u (stride file c u).did + rank_at ranks e.edge.to ≤ rank_at ranks at
        sunk_by at c u e s true is =
            let less = s.own is in
            let mine : own kind u (stride file c u).did ≡ counted (stride file c u).did =
            ap (λ v. if nat_eq v kind.thread then counted (stride file c u).did else 0) (sym e.actor_is)
            ∙ ap (λ b. if b then counted (stride file c u).did else 0) is in
            let one = (sorted (stride file c u).did (sort_at e.edge.mark) e.steps.sort).counts in
            let from = ap (rank_at ranks) e.from_is in
            omega (arith, less, mine, one, from)
        sunk_by at c u e s false is =
            let less = s.other is in
            let mine : own kind u (stride file c u).did ≡ 0 =
            ap (λ v. if nat_eq v kind.thread then counted (stride file c u).did else 0) (sym e.actor_is)
            ∙ ap (λ b. if b then counted (stride file c u).did else 0) is in
            let from = ap (rank_at ranks) e.from_is in
            omega (arith, less, mine, from)

        sinks_at : (at : ℕ) (c : Configuration) (u : ℕ) (e : Edged at c u) → label_at labels at ≡ Some call →
            kind.may u ≡ true →
            (kind.quiet u ≡ true → events_of u (stride file c u).did ≡ []) →
            own kind u (stride file c u).did + rank_at ranks e.edge.to ≤ rank_at ranks at
        sinks_at at c u e label may quiet =
            sunk_by at c u e (sinking e.place e.edge e.there (ap (label_at labels) e.from_is ∙ label)
            (kept_of at c u e may quiet (is_kept kind e.edge) refl)) (is_own kind.thread e.edge) refl

        own_waits : (at : ℕ) (c : Configuration) → label_at labels at ≡ Some call → kind.may kind.thread ≡ true →
            (stride file c kind.thread).did ≡ did.Waits →
            Rests file c kind.thread ⊎ Edged at c kind.thread →
            ⊥
        own_waits at c label may waits (inl rests) = cc
        own_waits at c label may waits (inr e) =
            let s = sorted (stride file c kind.thread).did (sort_at e.edge.mark) e.steps.sort in
            let silent : kind.quiet kind.thread ≡ true → events_of kind.thread (stride file c kind.thread).did ≡ [] =
            λ q. ap (events_of kind.thread) waits in
            let kept = kept_of at c kind.thread e may silent (is_kept kind e.edge) refl in
            let mine : is_own kind.thread e.edge ≡ true = own_is e.edge.actor e.actor_is in
            (sinking e.place e.edge e.there (ap (label_at labels) e.from_is ∙ label) kept).acts mine (s.waits waits)
          where
            own_is : (v : ℕ) → v ≡ kind.thread → nat_eq v kind.thread ≡ true
            own_is v e = grind (arith, nat_tests, e)

        ranked : IsRanked kind file states (label_at labels) closed call (rank_at ranks) most
        ranked = record {
          low = λ at c here label. high at label;
          sinks = λ at c here u acts label may quiet. sinks_at at c u (edge_at at c here u acts) label may quiet;
          free = λ at c here label may waits. own_waits at c label may waits (edged at c kind.thread here);
        }

        pub bounded : kind.quiet kind.thread ≡ true → IsBoundedFrom kind file root call most
        bounded quiet =
            ranks_bound kind file root states (label_at labels) closed call (rank_at ranks) most ranked quiet
            (record { to = 0; one = root; here = found.graph.begins; other = other_same root }) labelled.first
