-- The frames of a thread from one of them on.
use Rattle.std.proofs.Common.{◌≡◌, ℕ, ◌+◌, ◌-◌, ◌<◌, List, ◌∷◌, ◌++◌, length, drop, set, map, get_or, ap, ◌∙◌, arith}
use Rattle.std.proofs.Common.{refl, sym}
use Rattle.std.proofs.lemmas.List.{drop_more, set-append_right, set-append_left, get_or_default, get_or_append_left}
use Rattle.std.proofs.lemmas.List.{get_or-append_right, length-set, length-append}
use Rattle.ls_machine_moves.specs.Frames.{Kept, no_frame}

pub frames_split : (ks : List Kept) (i : ℕ) →
    i < length ks →
    map (λ k. k.frame) (drop i ks) ≡ (get_or ks i no_frame).frame ∷ map (λ k. k.frame) (drop (i + 1) ks)
frames_split ks i h = ap (map (λ (k : Kept). k.frame)) (drop_more ks i no_frame h)

-- two frames side by side, written in the parts of a cut between them
module _ (A B : List Kept) (i : ℕ) (cut : length A ≡ i) (above : 0 < i) (there : i < length (A ++ B)) where
  pub set_both : (a b : Kept) → set (set (A ++ B) (i - 1) a) i b ≡ set A (i - 1) a ++ set B 0 b
  set_both a b =
      let h : i - 1 < length A = omega arith in
      let e : length (set A (i - 1) a) ≡ i = simp length-set cut in
      let z : i - i ≡ 0 = omega arith in
      let l = set-append_left A B (i - 1) a h in
      let r : set (set A (i - 1) a ++ B) i b ≡ set A (i - 1) a ++
      set B (i - i) b = set-append_right (set A (i - 1) a) B i i b e (omega arith) in
      rw (l, r, z) refl

  pub callee_is : (d e : Kept) → get_or A (i - 1) d ≡ get_or (A ++ B) (i - 1) e
  callee_is d e =
      let h : i - 1 < length A = omega arith in
      get_or_default A (i - 1) d e h ∙ sym (get_or_append_left A B e (i - 1) h)

  pub caller_is : (d e : Kept) → get_or B 0 d ≡ get_or (A ++ B) i e
  caller_is d e =
      let z : i - i ≡ 0 = omega arith in
      let h : 0 < length B = omega (arith, simp length-append at there) in
      let r : get_or (A ++ B) i e ≡ get_or B (i - i) e = get_or-append_right A B i i e cut (omega arith) in
      get_or_default B 0 d e h ∙ sym (rw z at r)
