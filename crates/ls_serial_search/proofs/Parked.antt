-- Runs that are parked after schedules.
use Rattle.std.proofs.Common.{◌≡◌, ◌<◌, ℕ, zero, suc, List, [], ◌∷◌, ◌++◌, Option, ap, arith, length, refl}
use Rattle.std.proofs.Common.{slice_index_or, subst, sym}
use Rattle.ls_checked.specs.CheckedProgram.{Program}
use Rattle.ls_checked.specs.CheckedTree.{File}
use Rattle.ls_source.specs.declared.playing.Playing.{Playing}
use Rattle.ls_serial_search.specs.Parked.{AreParked, IsParked}

module _ (file : File) (program : Program) where
  -- a schedule more
  pub parked_push : (ss : List (List ℕ)) (rs : List (Option Playing)) (s : List ℕ) (r : Option Playing) →
      AreParked file program ss rs →
      IsParked file program s r →
      AreParked file program (ss ++ s ∷ []) (rs ++ r ∷ [])
  parked_push [] [] s r are is = (is, tt)
  parked_push [] (q ∷ rs) s r are is = absurd are
  parked_push (p ∷ ss) [] s r are is = absurd are
  parked_push (p ∷ ss) (q ∷ rs) s r are is = (are.0, parked_push ss rs s r are.1 is)

  pub as_many : (ss : List (List ℕ)) (rs : List (Option Playing)) → AreParked file program ss rs →
      length ss ≡ length rs
  as_many [] [] are = refl
  as_many [] (q ∷ rs) are = absurd are
  as_many (p ∷ ss) [] are = absurd are
  as_many (p ∷ ss) (q ∷ rs) are = ap suc (as_many ss rs are.1)

  -- the run at the place of a schedule
  pub parked_at : (ss : List (List ℕ)) (rs : List (Option Playing)) (at : ℕ) (s : List ℕ) (r : Option Playing) →
      AreParked file program ss rs →
      at < length ss →
      IsParked file program (slice_index_or ss at s) (slice_index_or rs at r)
  parked_at [] rs at s r are lt = absurd (omega arith)
  parked_at (p ∷ ss) [] at s r are lt = absurd are
  parked_at (p ∷ ss) (q ∷ rs) zero s r are lt = are.0
  parked_at (p ∷ ss) (q ∷ rs) (suc at) s r are lt = parked_at ss rs at s r are.1 (omega arith)

  -- the same, for those that are read at the place
  pub is_parked : (ss : List (List ℕ)) (rs : List (Option Playing)) (at : ℕ) (s : List ℕ) (r : Option Playing) →
      AreParked file program ss rs →
      at < length ss →
      s ≡ slice_index_or ss at s →
      r ≡ slice_index_or rs at r →
      IsParked file program s r
  is_parked ss rs at s r are lt schedule run =
      subst (λ q. IsParked file program s q) (sym run)
      (subst (λ t. IsParked file program t (slice_index_or rs at r)) (sym schedule) (parked_at ss rs at s r are lt))
