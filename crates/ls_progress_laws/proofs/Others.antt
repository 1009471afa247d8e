-- Configurations that are others but for names of objects take the same steps.
use Rattle.std.proofs.Common.{◌≡◌, ℕ, ◌+◌, List, [], ◌∷◌, map, refl, sym, ap, ◌∙◌}
use Rattle.std.specs.Prelude.{nat_eq, if◌then◌else◌}
use Rattle.ls_events.specs.declared.event.Event.{Event}
use Rattle.ls_checked.specs.CheckedTree.{File}
use Rattle.ls_meaning.specs.declared.step.Did.{Did}
use Rattle.ls_meaning.specs.declared.step.Did.TheVariants as did
use Rattle.ls_meaning.specs.Still.{IsActing}
use Rattle.ls_search_laws.specs.Stepping.{events_of}
use Rattle.ls_search_laws.specs.Configuration.{Configuration, IsRenamedStride, renamed_did, stride}
use Rattle.ls_search_laws.specs.Noticing.{renamed_event}
use Rattle.ls_search_laws.proofs.Renamed.{both, both_renaming, events_other, renamed_both, stride_other}
use Rattle.ls_progress_laws.specs.Laws.{IsOther}
use Rattle.ls_progress_laws.specs.Progress.{Kind, counted, own}
use Rattle.ls_progress_laws.specs.Strides.{AreWithin, end, own_strides}
use Rattle.ls_progress_laws.proofs.Unrenamed as unrenamed

pub other_same : (c : Configuration) → IsOther c c
other_same c = record {
  names = unrenamed.own;
  renaming = record { null = refl; apart = λ m n e. e };
  same = unrenamed.unrenamed c;
}

pub other_both : (c d e : Configuration) → IsOther c d → IsOther d e → IsOther c e
other_both c d e g h = record {
  names = both g.names h.names;
  renaming = both_renaming g.names h.names g.renaming h.renaming;
  same = renamed_both g.names h.names c d e g.same h.same;
}

-- ---- what is done under other names

pub counted_other : (names : ℕ → ℕ) (d : Did) → counted (renamed_did names d) ≡ counted d
counted_other names (did.Acted a x) = refl
counted_other names did.Waits = refl
counted_other names did.Idle = refl

pub acting_before : (names : ℕ → ℕ) (d : Did) → IsActing (renamed_did names d) → IsActing d
acting_before names (did.Acted a x) acts = tt
acting_before names did.Waits acts = acts
acting_before names did.Idle acts = acts

pub waits_before : (names : ℕ → ℕ) (d : Did) → renamed_did names d ≡ did.Waits → d ≡ did.Waits
waits_before names (did.Acted a x) e = absurd (not_waits e)
  where
    not_waits : renamed_did names (did.Acted a x) ≡ did.Waits → ⊥
    not_waits h = cc
waits_before names did.Waits e = refl
waits_before names did.Idle e = absurd (not_waits e)
  where
    not_waits : renamed_did names did.Idle ≡ did.Waits → ⊥
    not_waits h = cc

map_empty : (names : ℕ → ℕ) (es : List Event) → map (renamed_event names) es ≡ [] → es ≡ []
map_empty names [] e = refl
map_empty names (x ∷ es) e = absurd (not_empty e)
  where
    not_empty : map (renamed_event names) (x ∷ es) ≡ [] → ⊥
    not_empty h = cc

pub silent_before : (names : ℕ → ℕ) (u : ℕ) (d : Did) → events_of u (renamed_did names d) ≡ [] → events_of u d ≡ []
silent_before names u d e = map_empty names (events_of u d) (sym (events_other names u d) ∙ e)

pub silent_other : (names : ℕ → ℕ) (u : ℕ) (d : Did) → events_of u d ≡ [] → events_of u (renamed_did names d) ≡ []
silent_other names u d e = events_other names u d ∙ ap (map (renamed_event names)) e

module _ (kind : Kind) (file : File) where
  pub other_stride : (c d : Configuration) (h : IsOther c d) (u : ℕ) →
      IsRenamedStride h.names (stride file c u) (stride file d u)
  other_stride c d h u = stride_other file h.names h.renaming c d h.same u

  pub other_after : (c d : Configuration) → IsOther c d → (u : ℕ) →
      IsOther (stride file c u).after (stride file d u).after
  other_after c d h u = record { names = h.names; renaming = h.renaming; same = (other_stride c d h u).after }

  pub own_other : (c d : Configuration) (h : IsOther c d) (u : ℕ) →
      own kind u (stride file d u).did ≡ own kind u (stride file c u).did
  own_other c d h u =
      ap (own kind u) (other_stride c d h u).did
      ∙ ap (λ n. if nat_eq u kind.thread then n else 0) (counted_other h.names (stride file c u).did)

  -- ---- the same of paths

  pub end_other : (c d : Configuration) → IsOther c d → (path : List ℕ) →
      IsOther (end file c path) (end file d path)
  end_other c d h [] = h
  end_other c d h (u ∷ path) = end_other (stride file c u).after (stride file d u).after (other_after c d h u) path

  pub owns_other : (c d : Configuration) → IsOther c d → (path : List ℕ) →
      own_strides kind file d path ≡ own_strides kind file c path
  owns_other c d h [] = refl
  owns_other c d h (u ∷ path) =
      ap (λ n. n + own_strides kind file (stride file d u).after path) (own_other c d h u)
      ∙ ap (λ n. own kind u (stride file c u).did + n)
      (owns_other (stride file c u).after (stride file d u).after (other_after c d h u) path)

  pub within_other : (c d : Configuration) → IsOther c d → (path : List ℕ) → AreWithin kind file c path →
      AreWithin kind file d path
  within_other c d h [] w = tt
  within_other c d h (u ∷ path) w = (
    w.0,
    λ e. ap (events_of u) (other_stride c d h u).did ∙ silent_other h.names u (stride file c u).did (w.1 e),
    within_other (stride file c u).after (stride file d u).after (other_after c d h u) path w.2,
  )
