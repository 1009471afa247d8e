-- Where ranks sink, there is a bound.
use Rattle.std.proofs.Common.{◌≡◌, ℕ, ◌+◌, ◌≤◌, Bool, true, false, List, [], ◌∷◌, ◌++◌, Option, None, Some, fold}
use Rattle.std.proofs.Common.{refl, sym, ap}
use Rattle.std.proofs.Common.{◌∙◌, subst, arith}
use Rattle.std.specs.Prelude.{nat_eq, if◌then◌else◌}
use Rattle.std.proofs.lemmas.List.Sums.{fold-append}
use Rattle.std.proofs.lemmas.Bool.Decides.{nat_tests}
use Rattle.ls_checked.specs.CheckedTree.{File}
use Rattle.ls_meaning.specs.declared.step.Did.{Did}
use Rattle.ls_meaning.specs.declared.step.Did.TheVariants as did
use Rattle.ls_meaning.specs.Still.{IsActing, IsStill}
use Rattle.ls_search_laws.specs.Stepping.{events_of}
use Rattle.ls_search_laws.specs.Configuration.{Configuration, stride}
use Rattle.ls_search_laws.proofs.Renamed.{events_other}
use Rattle.ls_progress_laws.specs.Progress.{Kind, counted, own, pending_after}
use Rattle.ls_progress_laws.specs.Laws.{IsClosed, IsOther, IsRanked, Leads, RanksBound}
use Rattle.ls_progress_laws.proofs.Others.{acting_before, other_after, other_both, other_stride, own_other}
use Rattle.ls_progress_laws.proofs.Others.{silent_before}
use Rattle.ls_progress_laws.proofs.Others.{waits_before}
use Rattle.ls_progress_laws.proofs.Pending.{pending_quiet, pending_renamed}
use Rattle.ls_progress_laws.proofs.Steps.{stride_still}
use Rattle.ls_progress_laws.specs.Strides.{AreWithin, end, events_along, own_strides}

module _ (kind : Kind) (file : File) (list : List Configuration) (now : ℕ → Option ℕ)
    (closed : IsClosed kind.thread file list now) where
  -- ---- one step, from one of the list to one of the list

  abbrev moved : ℕ → Option ℕ → Did → Option ℕ
  moved u before d = fold (pending_after kind.thread) before (events_of u d)

  record Next (d : Configuration) (h : Leads list d) (u : ℕ) : Type 0 where
    pub to : Leads list (stride file d u).after
    pub now_is : now to.to ≡ moved u (now h.to) (stride file d u).did

  abbrev acts_there : (d : Configuration) (h : Leads list d) (u : ℕ) → IsActing (stride file d u).did →
      IsActing (stride file h.one u).did
  acts_there d h u acts = acting_before h.other.names (stride file h.one u).did
      (subst IsActing (other_stride kind file h.one d h.other u).did acts)

  same_moved : (d : Configuration) (h : Leads list d) (u : ℕ) →
      moved u (now h.to) (stride file d u).did ≡ moved u (now h.to) (stride file h.one u).did
  same_moved d h u =
      ap (moved u (now h.to)) (other_stride kind file h.one d h.other u).did
      ∙ ap (fold (pending_after kind.thread) (now h.to)) (events_other h.other.names u (stride file h.one u).did)
      ∙ pending_renamed kind.thread h.other.names (now h.to) (events_of u (stride file h.one u).did)

  abbrev led : (d : Configuration) (h : Leads list d) (u : ℕ) → IsActing (stride file d u).did →
      Leads list (stride file d u).after
  led d h u acts =
      let l = closed.leads h.to h.one h.here u (acts_there d h u acts) in
      record {
        to = l.to;
        one = l.one;
        here = l.here;
        other = other_both l.one (stride file h.one u).after (stride file d u).after l.other
            (other_after kind file h.one d h.other u);
      }

  abbrev next_acting : (d : Configuration) (h : Leads list d) (u : ℕ) → IsActing (stride file d u).did → Next d h u
  next_acting d h u acts = record {
    to = led d h u acts;
    now_is = closed.follows h.to h.one h.here u (acts_there d h u acts) ∙ sym (same_moved d h u);
  }

  moved_not : (u : ℕ) (before : Option ℕ) (d : Did) → IsStill d → moved u before d ≡ before
  moved_not u before (did.Acted a x) still = absurd still
  moved_not u before did.Waits still = refl
  moved_not u before did.Idle still = refl

  abbrev next_still : (d : Configuration) (h : Leads list d) (u : ℕ) → IsStill (stride file d u).did → Next d h u
  next_still d h u still = record {
    to = record {
      to = h.to;
      one = h.one;
      here = h.here;
      other = subst (IsOther h.one) (sym (stride_still kind file d u still)) h.other;
    };
    now_is = sym (moved_not u (now h.to) (stride file d u).did still);
  }

  -- ---- a schedule

  next_any : (d : Configuration) (h : Leads list d) (u : ℕ) (x : Did) → (stride file d u).did ≡ x → Next d h u
  next_any d h u (did.Acted a x) e = next_acting d h u (subst IsActing (sym e) tt)
  next_any d h u did.Waits e = next_still d h u (subst IsStill (sym e) tt)
  next_any d h u did.Idle e = next_still d h u (subst IsStill (sym e) tt)

  -- steps lead to one of the list, where that call is pending that is
  pub record Came (d : Configuration) (h : Leads list d) (path : List ℕ) : Type 0 where
    pub at : Leads list (end file d path)
    pub now_is : now at.to ≡ fold (pending_after kind.thread) (now h.to) (events_along file d path)

  pub came : (d : Configuration) (h : Leads list d) (path : List ℕ) → Came d h path
  came d h [] = record { at = h; now_is = refl }
  came d h (u ∷ path) =
      let n = next_any d h u (stride file d u).did refl in
      let rest = came (stride file d u).after n.to path in
      record {
        at = rest.at;
        now_is = rest.now_is
            ∙ ap (λ m. fold (pending_after kind.thread) m (events_along file (stride file d u).after path)) n.now_is
            ∙ sym (fold-append (pending_after kind.thread) (now h.to) (events_of u (stride file d u).did)
            (events_along file (stride file d u).after path));
      }

  -- ---- ranks

  module _ (call : ℕ) (rank : ℕ → ℕ) (most : ℕ) (ranked : IsRanked kind file list now closed call rank most)
      (quiet_own : kind.quiet kind.thread ≡ true) where
    -- a step within the call, with what is known of its rank
    record Goes (d : Configuration) (h : Leads list d) (u : ℕ) : Type 0 where
      pub next : Next d h u
      pub less : own kind u (stride file d u).did + rank next.to.to ≤ rank h.to

    own_waits : (d : Configuration) (h : Leads list d) (u : ℕ) → now h.to ≡ Some call → kind.may u ≡ true →
        (stride file d u).did ≡ did.Waits →
        (b : Bool) →
        nat_eq u kind.thread ≡ b →
        own kind u (stride file d u).did ≡ 0
    own_waits d h u is may e true mine =
        let same : u ≡ kind.thread = grind (arith, nat_tests, mine) in
        let waits : (stride file h.one u).did ≡ did.Waits =
        waits_before h.other.names (stride file h.one u).did
        (sym (other_stride kind file h.one d h.other u).did ∙ e) in
        absurd (ranked.free h.to h.one h.here is (subst (λ v. kind.may v ≡ true) same may)
        (subst (λ v. (stride file h.one v).did ≡ did.Waits) same waits))
    own_waits d h u is may e false mine = ap (λ b. if b then counted (stride file d u).did else 0) mine

    none_of : (u : ℕ) (d : Did) (b : Bool) → nat_eq u kind.thread ≡ b → d ≡ did.Idle → own kind u d ≡ 0
    none_of u d true e idle = ap (λ b. if b then counted d else 0) e ∙ ap counted idle
    none_of u d false e idle = ap (λ b. if b then counted d else 0) e

    goes : (d : Configuration) (h : Leads list d) (u : ℕ) → now h.to ≡ Some call → kind.may u ≡ true →
        (kind.quiet u ≡ true → events_of u (stride file d u).did ≡ []) →
        (x : Did) →
        (stride file d u).did ≡ x →
        Goes d h u
    goes d h u is may quiet (did.Acted a x) e =
        let acts : IsActing (stride file d u).did = subst IsActing (sym e) tt in
        let sunk = ranked.sinks h.to h.one h.here u (acts_there d h u acts) is may
        (λ q. silent_before h.other.names u (stride file h.one u).did
        (ap (events_of u) (sym (other_stride kind file h.one d h.other u).did) ∙ quiet q)) in
        let same = own_other kind file h.one d h.other u in
        record { next = next_acting d h u acts; less = omega (arith, sunk, same) }
    goes d h u is may quiet did.Waits e =
        let z = own_waits d h u is may e (nat_eq u kind.thread) refl in
        record { next = next_still d h u (subst IsStill (sym e) tt); less = omega (arith, z) }
    goes d h u is may quiet did.Idle e =
        let z = none_of u (stride file d u).did (nat_eq u kind.thread) refl e in
        record { next = next_still d h u (subst IsStill (sym e) tt); less = omega (arith, z) }

    pub few : (d : Configuration) (h : Leads list d) (path : List ℕ) → now h.to ≡ Some call →
        AreWithin kind file d path →
        own_strides kind file d path ≤ rank h.to
    few d h [] is w = omega arith
    few d h (u ∷ path) is w =
        let g = goes d h u is w.0 w.1 (stride file d u).did refl in
        let sunk = g.less in
        let stays = g.next.now_is
        ∙ pending_quiet kind.quiet u kind.thread (now h.to) (stride file d u).did quiet_own w.1 ∙ is in
        let rest = few (stride file d u).after g.next.to path stays w.2 in
        omega (arith, sunk, rest)

pub ranks_bound : RanksBound
ranks_bound kind file root list now closed call rank most ranked quiet_own first none before path in_call w =
    let c = came kind file list now closed root first before in
    let is : now c.at.to ≡ Some call = c.now_is
    ∙ ap (λ m. fold (pending_after kind.thread) m (events_along file root before)) none ∙ in_call in
    let steps = few kind file list now closed call rank most ranked quiet_own (end file root before) c.at path is w in
    let low = ranked.low c.at.to c.at.one c.at.here is in
    omega (arith, steps, low)
