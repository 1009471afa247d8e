-- A walk in the graph of a program's states that comes back to where it began is a lasso.
use Rattle.std.proofs.Common.{◌≡◌, ◌⊎◌, inl, inr, ℕ, zero, suc, ◌≤◌, ◌<◌, Bool, true, List, [], ◌∷◌, ◌++◌, Option}
use Rattle.std.proofs.Common.{None, Some, fold, length, refl, sym, ap, ◌∙◌, subst, arith}
use Rattle.std.specs.Prelude.{slice_get, Contains}
use Rattle.std.proofs.lemmas.Bool.{cases_lt}
use Rattle.ls_checked.specs.CheckedTree.{File}
use Rattle.ls_graph.specs.Found.{HasNoneBy}
use Rattle.ls_graph.specs.Graph.{HasEdge, IsTold}
use Rattle.ls_graph.specs.Walks.{Walks, actors_of}
use Rattle.ls_graph.specs.declared.closing.Edge.{Edge}
use Rattle.ls_graph.proofs.Lists.{some_is}
use Rattle.ls_meaning.specs.declared.step.Did.TheVariants as did
use Rattle.ls_meaning.specs.Still.{IsActing}
use Rattle.ls_search_laws.specs.Configuration.{Configuration, renamed_did, stride}
use Rattle.ls_progress_laws.specs.From.{GoesRoundFrom, IsFairBy, IsFairByLocks}
use Rattle.ls_progress_laws.specs.Laws.{IsLasso, IsOther}
use Rattle.ls_progress_laws.specs.Progress.{Kind, pending, pending_after}
use Rattle.ls_progress_laws.specs.Strides.{ActsAlong, AreWithin, end, events_along, own_strides}
use Rattle.ls_progress_laws.proofs.Others.{acting_before, other_same, other_stride}
use Rattle.ls_progress_laws.proofs.Rounds.{lassos_go_round}
use Rattle.ls_progress.specs.Cycles.{Acts, AllGo, HasActing, IsLed, PassesNone}
use Rattle.ls_progress.specs.Labels.{AreLabels, label_at}
use Rattle.ls_progress.specs.Steps.{IsStates, NoEnd, Rests}
use Rattle.ls_progress.specs.declared.lassos.Lasso.{Lasso}
use Rattle.ls_progress.proofs.Walking.{Walked, acts_along, along, labels_along, walked}

-- ---- the edge of a step of a path

record Split (path : List Edge) (before : List ℕ) : Type 0 where
  pub front : List Edge
  pub edge : Edge
  pub back : List Edge
  pub is : path ≡ front ++ edge ∷ back
  pub before_is : actors_of front ≡ before

split : (path : List Edge) (before after : List ℕ) (v : ℕ) → actors_of path ≡ before ++ v ∷ after → Split path before
split [] [] after v e = absurd (cc)
split [] (x ∷ before) after v e = absurd (cc)
split (g ∷ path) [] after v e = record { front = []; edge = g; back = path; is = refl; before_is = refl }
split (g ∷ path) (x ∷ before) after v e =
    let rest = split path before after v (tail_is e) in
    record {
      front = g ∷ rest.front;
      edge = rest.edge;
      back = rest.back;
      is = ap (λ l. g ∷ l) rest.is;
      before_is = (λ i. head_is e i ∷ rest.before_is i);
    }
  where
    head_is : g.actor ∷ actors_of path ≡ x ∷ (before ++ v ∷ after) → g.actor ≡ x
    head_is h = cc

    tail_is : g.actor ∷ actors_of path ≡ x ∷ (before ++ v ∷ after) → actors_of path ≡ before ++ v ∷ after
    tail_is h = cc

front_walks : (edges front back : List Edge) (e : Edge) (at to : ℕ) → Walks edges at (front ++ e ∷ back) to →
    Walks edges at front e.from
front_walks edges [] back e at to w = sym w.1
front_walks edges (g ∷ front) back e at to w = (w.0, w.1, front_walks edges front back e g.to to w.2)

stands_there : (front back : List Edge) (e : Edge) → slice_get (front ++ e ∷ back) (length front) ≡ Some e
stands_there [] back e = refl
stands_there (g ∷ front) back e = stands_there front back e

module _ (file : File) (threads : ℕ) (root : Configuration) (edges : List Edge) (count : ℕ) (looked : List Bool)
    (found : IsStates file threads root edges count looked) (kind : Kind) (labels : List (Option ℕ))
    (labelled : AreLabels kind.thread edges labels) (call at : ℕ) (cycle : List Edge) (l : Lasso)
    (led : IsLed kind edges labels call at cycle l) where
  -- where the way leads to
  came : Walked file found.states edges found.graph.led kind at root led.path
  came =
      walked file found.states edges found.graph.led kind led.path 0 at root root led.walks found.graph.begins
      (other_same root)

  placed : IsOther came.one (end file root l.way.items)
  placed = subst (λ p. IsOther came.one (end file root p)) (sym led.way_is) came.other

  in_call : pending kind.thread (events_along file root l.way.items) ≡ Some call
  in_call =
      ap (λ p. pending kind.thread (events_along file root p)) led.way_is
      ∙ ap (λ m. fold (pending_after kind.thread) m (events_along file root (actors_of led.path))) (sym labelled.first)
      ∙ sym (labels_along file found.states edges found.graph.led kind labels labelled led.path 0 at root root
      led.walks found.graph.begins (other_same root))
      ∙ led.label

  lasso : IsLasso kind file root call l.way.items l.cycle.items
  lasso =
      let one : Configuration = came.one in
      let w = walked file found.states edges found.graph.led kind cycle at at one one led.along.walks came.here
      (other_same one) in
      let same : w.one ≡ one = some_is (sym w.here ∙ came.here) in
      let e : actors_of cycle ≡ l.cycle.items = sym led.cycle_is in
      let some = led.along.some refl in
      let many = w.own in
      record {
        in_call = in_call;
        start = one;
        led = placed;
        within = subst (AreWithin kind file one) e (w.within led.along.kept);
        some = subst (λ p. 1 ≤ own_strides kind file one p) e (omega (arith, some, many));
        back = subst (λ p. IsOther one (end file one p)) e
            (subst (λ k. IsOther k (end file one (actors_of cycle))) same w.other);
      }

  pub goes_round : GoesRoundFrom kind file root call l.way.items l.cycle.items
  goes_round = lassos_go_round kind file root call l.way.items l.cycle.items lasso

  -- each thread that has no edge where the cycle begins does nothing any more
  pub all_fair : slice_get looked at ≡ Some true → AllGo edges at threads l.cycle.items →
      IsFairBy file threads (end file root l.way.items) l.cycle.items
  all_fair marked all u first less = by_go (all u first less)
    where
      idle : Rests file came.one u → (stride file (end file root l.way.items) u).did ≡ did.Idle
      idle rests =
          (other_stride kind file came.one (end file root l.way.items) placed u).did
          ∙ ap (λ x. renamed_did placed.names x) rests

      by_told : HasNoneBy edges at u → IsTold (Rests file) NoEnd edges at came.one u →
          (stride file (end file root l.way.items) u).did ≡ did.Idle
      by_told none (inl rests) = idle rests
      by_told none (inr h) = absurd (none h.place h.edge h.here h.from_is h.actor_is)

      by_go : Contains l.cycle.items u ⊎ HasNoneBy edges at u →
          Contains l.cycle.items u ⊎ ((stride file (end file root l.way.items) u).did ≡ did.Idle)
      by_go (inl takes) = inl takes
      by_go (inr none) = inr (by_told none (((found.graph.told at marked).1 came.one came.here).told u less))

  -- ---- locks that pass over no thread

  module _ (passes : PassesNone edges looked cycle) where
    abbrev here_is : Configuration
    here_is = end file root l.way.items

    -- a thread that could act where the path goes by acts in it
    acting : (front back : List Edge) (e : Edge) (u : ℕ) → cycle ≡ front ++ e ∷ back →
        IsActing (stride file (end file here_is (actors_of front)) u).did →
        ActsAlong file here_is (actors_of cycle) u
    acting front back e u is acts = by_thread (cases_lt u threads)
      where
        walks : Walks edges at front e.from
        walks = front_walks edges front back e at at (subst (λ p. Walks edges at p at) is led.along.walks)

        w : Walked file found.states edges found.graph.led kind e.from here_is front
        w = walked file found.states edges found.graph.led kind front at e.from came.one here_is walks came.here placed

        there : slice_get cycle (length front) ≡ Some e
        there = ap (λ p. slice_get p (length front)) is ∙ stands_there front back e

        once : IsActing (stride file w.one u).did
        once = acting_before w.other.names (stride file w.one u).did
            (subst IsActing (other_stride kind file w.one (end file here_is (actors_of front)) w.other u).did acts)

        by_has : HasActing cycle u → ActsAlong file here_is (actors_of cycle) u
        by_has (i, g, g_here, g_actor, g_acts) =
            subst (ActsAlong file here_is (actors_of cycle)) g_actor
            (acts_along file found.states edges found.graph.led kind cycle at at came.one here_is led.along.walks
            came.here placed i g g_here g_acts)

        by_edge_of : HasEdge edges e.from u → ActsAlong file here_is (actors_of cycle) u
        by_edge_of h =
            let a = along file found.states edges found.graph.led kind h.place h.edge h.here w.one
            (end file here_is (actors_of front)) (subst (λ n. slice_get found.states n ≡ Some w.one) (sym h.from_is)
            w.here) w.other in
            let on : Acts h.edge = a.sort.goes
            (subst (λ v. IsActing (stride file (end file here_is (actors_of front)) v).did) (sym h.actor_is) acts) in
            by_has (subst (HasActing cycle) h.actor_is
            (passes.acts (length front) e there h.place h.edge h.here h.from_is on))

        by_told : IsTold (Rests file) NoEnd edges e.from w.one u → ActsAlong file here_is (actors_of cycle) u
        by_told (inl rests) = absurd (subst IsActing rests once)
        by_told (inr h) = by_edge_of h

        by_thread : (u < threads) ⊎ (threads ≤ u) → ActsAlong file here_is (actors_of cycle) u
        by_thread (inl less) =
            by_told (((found.graph.told e.from (passes.known (length front) e there)).1 w.one w.here).told u less)
        by_thread (inr past) = absurd (subst IsActing (found.others e.from w.one w.here u past) once)

    pub fair_by_locks : IsFairByLocks file here_is l.cycle.items
    fair_by_locks before after v u e acts =
        let s = split cycle before after v (sym led.cycle_is ∙ e) in
        subst (λ p. ActsAlong file here_is p u) (sym led.cycle_is)
        (acting s.front s.back s.edge u s.is
        (subst (λ p. IsActing (stride file (end file here_is p) u).did) (sym s.before_is) acts))
