-- From one step to every schedule: each schedule of the machine has one of the source.
use Rattle.std.proofs.Common.{◌≡◌, ℕ, List, [], ◌∷◌, map, refl, sym, ap, ◌∙◌, subst}
use Rattle.ls_meaning.specs.Steps.{Stepped, Same, Moved, Acted, after, traced, run, trace}

module _ (S M E F : Type 0) (sd : S → ℕ → Stepped S E) (md : M → ℕ → Stepped M F) (thread_of : F → ℕ)
    (write : S → E → F) (R : S → M → Type 0) (Grows : S → S → Type 0) (Live : S → E → Type 0) where
  -- what the source does for one step of the machine
  abbrev pub Back : S → M → ℕ → Stepped M F → Type 0
  Back s m t Same = Unit {0}
  Back s m t (Moved m') = R s m'
  Back s m t (Acted m' f) = (thread_of f ≡ t) × ((s' : S) × (e : E) × (sd s t ≡ Acted s' e) × R s' m' ×
      (f ≡ write s' e) × Live s' e × Grows s s')

  -- each entry is kept as it is
  abbrev pub Alive : S → List E → Type 0
  Alive s [] = Unit {0}
  Alive s (e ∷ es) = Live s e × Alive s es

  -- the laws of one step
  pub record Laws : Type 0 where
    pub grows_refl : (s : S) → Grows s s
    pub grows_trans : (s s' s'' : S) → Grows s s' → Grows s' s'' → Grows s s''
    pub stable : (s s' : S) (e : E) → Live s e → Grows s s' → write s e ≡ write s' e
    pub lives : (s s' : S) (e : E) → Live s e → Grows s s' → Live s' e
    pub step : (s : S) (m : M) (t : ℕ) → R s m → Back s m t (md m t)

  module _ (laws : Laws) where
    -- what a whole schedule of the machine does
    abbrev Whole : S → List ℕ → List F → M → Type 0
    Whole s r fs m' = (R (run sd s r) m') × (fs ≡ map (write (run sd s r)) (trace sd s r)) × Grows s (run sd s r) ×
        Alive (run sd s r) (trace sd s r)

    acted : (s : S) (m m' : M) (f : F) (s' : S) (e : E) (fs : List F) (mf : M) →
        sd s (thread_of f) ≡ Acted s' e →
        f ≡ write s' e →
        Live s' e →
        Grows s s' →
        Whole s' (map thread_of fs) fs mf →
        Whole s (thread_of f ∷ map thread_of fs) (f ∷ fs) mf
    acted s m m' f s' e fs mf d w l g (r, t, g', al) =
        subst (λ x. R (run sd (after s x) (map thread_of fs)) mf ×
        ((f ∷ fs) ≡ map (write (run sd (after s x) (map thread_of fs)))
        (traced x (trace sd (after s x) (map thread_of fs)))) × Grows s (run sd (after s x) (map thread_of fs)) ×
        Alive (run sd (after s x) (map thread_of fs)) (traced x (trace sd (after s x) (map thread_of fs)))) (sym d) (
          r,
          ap (λ x. x ∷ fs) (w ∙ laws.stable s' _ e l g') ∙
              ap (λ xs. write (run sd s' (map thread_of fs)) e ∷ xs) t,
          laws.grows_trans s s' _ g g',
          (laws.lives s' _ e l g', al),
        )

    head_back : (s : S) (m : M) (t : ℕ) (ts : List ℕ) (d : Stepped M F) →
        R s m →
        Back s m t d →
        ((s1 : S) → R s1 (after m d) → Whole s1 (map thread_of (trace md (after m d) ts)) (trace md (after m d) ts)
        (run md (after m d) ts)) →
        Whole s (map thread_of (traced d (trace md (after m d) ts))) (traced d (trace md (after m d) ts))
        (run md (after m d) ts)
    head_back s m t ts Same h b rest = rest s h
    head_back s m t ts (Moved m') h b rest = rest s b
    head_back s m t ts (Acted m' f) h b rest = acted s m' m' f b.1.0 b.1.1 (trace md m' ts) (run md m' ts)
        (subst (λ u. sd s u ≡ Acted b.1.0 b.1.1) (sym b.0) b.1.2) b.1.4 b.1.5 b.1.6 (rest b.1.0 b.1.3)

    -- for each schedule of the machine, the source's schedule of its acting steps
    pub to_source_right : (ts : List ℕ) (s : S) (m : M) →
        R s m →
        Whole s (map thread_of (trace md m ts)) (trace md m ts) (run md m ts)
    to_source_right [] s m h = (h, refl, laws.grows_refl s, tt)
    to_source_right (t ∷ ts) s m h = head_back s m t ts (md m t) h (laws.step s m t h)
        (λ s1 h1. to_source_right ts s1 (after m (md m t)) h1)
