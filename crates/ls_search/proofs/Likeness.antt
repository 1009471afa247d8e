-- States that are others but for names of objects.
use Rattle.std.proofs.Common.{◌≡◌, ℕ, List, [], ◌∷◌, map, refl, sym, ap, ◌∙◌, subst}
use Rattle.std.specs.List.{fold}
use Rattle.ls_events.specs.declared.event.Event.{Event}
use Rattle.ls_checked.specs.CheckedTree.{File}
use Rattle.ls_checked.specs.CheckedProgram.{Program}
use Rattle.ls_meaning.specs.declared.step.Did.{Did}
use Rattle.ls_meaning.specs.declared.step.Did.TheVariants as did
use Rattle.ls_meaning.specs.Renamings.{IsRenaming}
use Rattle.ls_meaning.specs.Still.{IsActing, IsStill}
use Rattle.ls_search_laws.specs.Stepping.{events_of}
use Rattle.ls_search_laws.specs.Configuration.{Configuration, IsRenamedStride, renamed_did, stride}
use Rattle.ls_search_laws.specs.Noticing.{Noticed, noticed_after, renamed_event}
use Rattle.ls_search_laws.proofs.Renamed.{both, both_renaming, events_other, renamed_both, stride_other}
use Rattle.ls_search.specs.Answers.{IsStuck}
use Rattle.ls_search.specs.Searched.{HidesNames, IsLike, IsOther}
use Rattle.ls_search.proofs.Unrenamed.{own, unrenamed}

-- each is like itself
pub other_same : (c : Configuration) → IsOther c c
other_same c = record { names = own; renaming = record { null = refl; apart = λ m n e. e }; same = unrenamed c }

other_both : (c d e : Configuration) → IsOther c d → IsOther d e → IsOther c e
other_both c d e g h = record {
  names = both g.names h.names;
  renaming = both_renaming g.names h.names g.renaming h.renaming;
  same = renamed_both g.names h.names c d e g.same h.same;
}

pub like_same : {S : Type 0} (p q : Noticed S) → q ≡ p → IsLike p q
like_same {S} p q e = record {
  other = subst (IsOther p.configuration) (ap (λ (r : Noticed S). r.configuration) (sym e))
      (other_same p.configuration);
  noted = ap (λ (r : Noticed S). r.noted) e;
}

pub like_both : {S : Type 0} (p q r : Noticed S) → IsLike p q → IsLike q r → IsLike p r
like_both p q r g h = record {
  other = other_both p.configuration q.configuration r.configuration g.other h.other;
  noted = h.noted ∙ g.noted;
}

module _ (file : File) (c d : Configuration) (h : IsOther c d) where
  other_stride : (u : ℕ) → IsRenamedStride h.names (stride file c u) (stride file d u)
  other_stride u = stride_other file h.names h.renaming c d h.same u

  still_other : (names : ℕ → ℕ) (x : Did) → IsStill x → IsStill (renamed_did names x)
  still_other names (did.Acted action answer) still = still
  still_other names did.Waits still = tt
  still_other names did.Idle still = tt

  -- what is like a stuck one is stuck
  pub stuck_other : IsStuck file c → IsStuck file d
  stuck_other stuck = record {
    still = λ u. subst IsStill (sym (other_stride u).did) (still_other h.names (stride file c u).did (stuck.still u));
    thread = stuck.thread;
    waits = (other_stride stuck.thread).did ∙ ap (renamed_did h.names) stuck.waits;
  }

  acting_did : (names : ℕ → ℕ) (x : Did) → IsActing x → IsActing (renamed_did names x)
  acting_did names (did.Acted action answer) acts = tt
  acting_did names did.Waits acts = absurd acts
  acting_did names did.Idle acts = absurd acts

  -- what acts at one acts at the other
  pub acting_other : (u : ℕ) → IsActing (stride file c u).did → IsActing (stride file d u).did
  acting_other u acts = subst IsActing (sym (other_stride u).did) (acting_did h.names (stride file c u).did acts)

module _ {S : Type 0} (first : S) (next : S → Event → S) (file : File) (program : Program) (hides : HidesNames next)
  where
    events_hidden : (names : ℕ → ℕ) → IsRenaming names → (m : S) (es : List Event) →
        fold next m (map (renamed_event names) es) ≡ fold next m es
    events_hidden names is m [] = refl
    events_hidden names is m (e ∷ es) =
        ap (λ n. fold next n (map (renamed_event names) es)) (hides names is m e)
        ∙ events_hidden names is (next m e) es

    like_after : (p q : Noticed S) → IsLike p q → (u : ℕ) →
        IsLike (noticed_after first next file program p u) (noticed_after first next file program q u)
    like_after p q h u =
        let names = h.other.names in
        let s = other_stride file p.configuration q.configuration h.other u in
        let d : Did = (stride file p.configuration u).did in
        record {
          other = record { names = h.other.names; renaming = h.other.renaming; same = s.after };
          noted =
              ap (λ (m : S). fold next m (events_of u (stride file q.configuration u).did)) h.noted
              ∙ ap (λ (e : Did). fold next p.noted (events_of u e)) s.did
              ∙ ap (fold next p.noted) (events_other h.other.names u (stride file p.configuration u).did)
              ∙ events_hidden h.other.names h.other.renaming p.noted (events_of u (stride file p.configuration u).did);
        }

    -- steps of the same threads lead from states that are like to states that are
    pub like_fold : (p q : Noticed S) → IsLike p q → (ts : List ℕ) →
        IsLike (fold (noticed_after first next file program) p ts) (fold (noticed_after first next file program) q ts)
    like_fold p q h [] = h
    like_fold p q h (u ∷ us) =
        like_fold (noticed_after first next file program p u) (noticed_after first next file program q u)
        (like_after p q h u) us
