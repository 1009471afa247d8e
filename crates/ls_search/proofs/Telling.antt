-- What a graph of states that has closed tells.
use Rattle.std.proofs.Common.{◌≡◌, inl, inr, ℕ, ◌<◌, Bool, true, false, List, length, Option, None, Some}
use Rattle.std.proofs.Common.{sym, ap, ◌∙◌, subst}
use Rattle.std.specs.Prelude.{Contains, IfNone, IfSome, replicate, slice_get}
use Rattle.std.proofs.lemmas.Option.{get_or_from_slice_get, slice_get-get_or}
use Rattle.ls_events.specs.declared.event.Event.{Event}
use Rattle.ls_checked.specs.CheckedTree.{File}
use Rattle.ls_checked.specs.CheckedProgram.{Program}
use Rattle.ls_graph.specs.declared.closing.Edge.{Edge}
use Rattle.ls_graph.specs.Found.{HasAny}
use Rattle.ls_graph.specs.Graph.{IsEdge, IsGraph, IsTold, IsWhole}
use Rattle.ls_graph.proofs.Lists.{below, some_is}
use Rattle.ls_meaning.specs.declared.step.Did.{Did}
use Rattle.ls_meaning.specs.declared.step.Did.TheVariants as did
use Rattle.ls_meaning.specs.Renamings.{IsRenaming}
use Rattle.ls_meaning.specs.Still.{IsActing, IsStill}
use Rattle.ls_search_laws.specs.Configuration.{stride}
use Rattle.ls_search_laws.specs.Noticing.{Noticed, noticed_after}
use Rattle.ls_search_laws.specs.Search.{IsFound}
use Rattle.ls_search.specs.Answers.{ClosesAll, IsStuck}
use Rattle.ls_search.specs.Space.{GoesTo, Rests}
use Rattle.ls_search.specs.Strides.{at_once}

pub none_map : {A : Type 0} (P Q : Type 0) (o : Option A) → (P → Q) → IfNone o P → IfNone o Q
none_map P Q None f h = f h
none_map P Q (Some x) f h = tt

pub some_map : {A : Type 0} (P Q : A → Type 0) (o : Option A) → ((x : A) → P x → Q x) → IfSome o P → IfSome o Q
some_map P Q None f h = tt
some_map P Q (Some x) f h = f x h

-- what stands at a place is there, and the other way round
pub at_there : {A : Type 0} (xs : List A) (k : ℕ) (x : A) → slice_get xs k ≡ Some x → Contains xs x
at_there xs k x e = (k, below xs k x e, get_or_from_slice_get xs k x x e)

pub there_at : {A : Type 0} (xs : List A) (x : A) → (h : Contains xs x) → slice_get xs h.0 ≡ Some x
there_at xs x h = slice_get-get_or xs h.0 x h.1 ∙ ap Some h.2

acting_still : (d : Did) → IsActing d → IsStill d → ⊥
acting_still (did.Acted action answer) acts still = still
acting_still did.Waits acts still = acts
acting_still did.Idle acts still = acts

module _ {N S : Type 0} (stands : N → S) (first : S) (next : S → Event → S) (file : File) (program : Program)
    (threads : ℕ) (Ends : Noticed S → Type 0) (root : Noticed S) (states : List (Noticed S)) (edges : List Edge)
    (looked : List Bool)
    (graph : IsGraph (Rests first next file program stands None) (GoesTo first next file program) Ends threads root
    states edges looked) where
  -- where the thread leads from there
  pub record IsReached (p : Noticed S) (u : ℕ) : Type 0 where
    pub place : ℕ
    pub other : Noticed S
    pub there : slice_get states place ≡ Some other
    pub steps : ℕ
    pub goes : GoesTo first next file program p u steps other

  -- an edge leads to a state
  edge_goes : (e : Edge) → IsEdge (GoesTo first next file program) states e → (at : ℕ) (p : Noticed S) → e.from ≡ at →
      slice_get states at ≡ Some p →
      IsReached p e.actor
  edge_goes e is at p from here =
      let one : is.one ≡ p = some_is (sym is.here ∙ ap (slice_get states) from ∙ here) in
      record {
        place = e.to;
        other = is.other;
        there = is.there;
        steps = e.mark;
        goes = subst (λ (x : Noticed S). GoesTo first next file program x e.actor e.mark is.other) one is.leads;
      }

  -- a thread that acts at a state that was looked at leads to a state
  pub leads_on : (at : ℕ) (p : Noticed S) → slice_get states at ≡ Some p → slice_get looked at ≡ Some true → (u : ℕ) →
      u < threads →
      IsActing (stride file p.configuration u).did →
      IsReached p u
  leads_on at p here done u within acts = by_told (((graph.told at done).1 p here).told u within)
    where
      by_told : IsTold (Rests first next file program stands None) Ends edges at p u → IsReached p u
      by_told (inl (inl still)) = absurd (acting_still (stride file p.configuration u).did acts still)
      by_told (inl (inr lost)) = absurd lost
      by_told (inr has) =
          subst (IsReached p) has.actor_is
          (edge_goes has.edge (graph.led has.place has.edge has.here) at p has.from_is here)

  -- where an edge leads from a state, it isn't stuck
  pub not_stuck : (at : ℕ) (p : Noticed S) → slice_get states at ≡ Some p → HasAny edges at →
      IsStuck file p.configuration →
      ⊥
  not_stuck at p here any stuck =
      let e : Edge = any.1 in
      let goes = (edge_goes any.1 (graph.led any.0 any.1 any.2) at p any.3 here).goes in
      acting_still (stride file p.configuration e.actor).did goes.acts (stuck.still e.actor)

  found : (p : Noticed S) (u : ℕ) → IsReached p u →
      IsFound at_once IsRenaming (λ m n. m ≡ n) file states (noticed_after first next file program p u)
  found p u h = record {
    pair = h.other;
    there = at_there states h.place h.other h.there;
    threads = replicate h.steps u;
    last = h.goes.reaches.last;
    leads = h.goes.reaches.leads;
    names = h.goes.reaches.other.names;
    allowed = h.goes.reaches.other.renaming;
    same = h.goes.reaches.other.same;
    alike = h.goes.reaches.noted_still;
  }

  pub closes_all : {P : Type 0} (is_bad : S → Bool) (bad stuck : Option P) → IsWhole (length states) looked →
      ((at : ℕ) (p : Noticed S) → slice_get states at ≡ Some p → (n : N) × (stands n ≡ p.noted)) →
      IfNone bad ((at : ℕ) (p : Noticed S) → slice_get states at ≡ Some p → is_bad p.noted ≡ false) →
      IfNone stuck ((at : ℕ) (p : Noticed S) → slice_get states at ≡ Some p → slice_get looked at ≡ Some true →
      IsStuck file p.configuration → ⊥) →
      ClosesAll stands first next is_bad file program threads root bad stuck
  closes_all is_bad bad stuck whole noted good free = record {
    pairs = states;
    begins = graph.begins;
    more = λ p u there within acts.
        found p u (leads_on there.0 p (there_at states p there) (done p there) u within acts);
    noted = λ p there. noted there.0 p (there_at states p there);
    good = none_map _ _ bad
        (λ (h : (at : ℕ) (p : Noticed S) → slice_get states at ≡ Some p → is_bad p.noted ≡ false) (p : Noticed S)
        (there : Contains states p). h there.0 p (there_at states p there)) good;
    free = none_map _ _ stuck
        (λ (h : (at : ℕ) (p : Noticed S) → slice_get states at ≡ Some p → slice_get looked at ≡ Some true →
        IsStuck file p.configuration → ⊥) (p : Noticed S) (there : Contains states p).
        h there.0 p (there_at states p there) (done p there)) free;
  }
    where
      done : (p : Noticed S) (there : Contains states p) → slice_get looked there.0 ≡ Some true
      done p there = whole there.0 (below states there.0 p (there_at states p there))
