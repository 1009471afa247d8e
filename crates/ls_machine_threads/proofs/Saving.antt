-- Lists that are made to show the same as others, one element after another.
use Rattle.std.proofs.Common.{◌≡◌, ℕ, ◌+◌, ◌<◌, ◌^◌, ◌⊎◌, inl, inr, List, [], ◌∷◌, ◌++◌, length, map, take, drop, set}
use Rattle.std.proofs.Common.{get_or, sym, ap, ◌∙◌, arith}
use Rattle.std.proofs.lemmas.Bool.{cases_eq}
use Rattle.std.proofs.lemmas.List.{map-append, take_more, take_more_set, drop-set-add, length-drop, get_or-set_same}
use Rattle.std.proofs.lemmas.List.{get_or-set_other}
use Rattle.ls_code.specs.Frame.{Frame}
use Rattle.ls_machine_moves.specs.Frames.{Kept, no_frame}
use Rattle.ls_machine_threads.specs.Memory.{CallersGoOn, HaveRooms, IsThread}

module _ {A B C : Type 0} (f : A → C) (g : B → C) where
  -- one element is pushed that shows the same as the next of the others
  pub pushed : (xs new : List A) (ys : List B) (i : ℕ) (x : A) (e : B) →
      i < length ys →
      new ≡ xs ++ x ∷ [] →
      map f xs ≡ map g (take i ys) →
      f x ≡ g (get_or ys i e) →
      map f new ≡ map g (take (i + 1) ys)
  pushed xs new ys i x e hy is before here =
      ap (map f) is
      ∙ map-append f xs (x ∷ [])
      ∙ ap (λ l. l ++ f x ∷ []) before
      ∙ ap (λ z. map g (take i ys) ++ z ∷ []) here
      ∙ sym (ap (map g) (take_more ys i e hy) ∙ map-append g (take i ys) (get_or ys i e ∷ []))

  -- one element is written
  pub written : (xs : List A) (ys : List B) (i : ℕ) (x : A) (e : B) →
      i < length xs →
      i < length ys →
      map f (take i xs) ≡ map g (take i ys) →
      f x ≡ g (get_or ys i e) →
      map f (take (i + 1) (set xs i x)) ≡ map g (take (i + 1) ys)
  written xs ys i x e hx hy before here = pushed (take i xs) (take (i + 1) (set xs i x)) ys i x e hy
      (take_more_set xs i x hx) before here

  -- one element is written, past so many others
  pub written_past : (xs : List A) (n : ℕ) (ys : List B) (i : ℕ) (x : A) (e : B) →
      n + i < length xs →
      i < length ys →
      map f (take i (drop n xs)) ≡ map g (take i ys) →
      f x ≡ g (get_or ys i e) →
      map f (take (i + 1) (drop n (set xs (n + i) x))) ≡ map g (take (i + 1) ys)
  written_past xs n ys i x e hx hy before here =
      let count = length-drop n xs in
      ap (λ l. map f (take (i + 1) l)) (drop-set-add n xs i x) ∙
      written (drop n xs) ys i x e (omega (arith, count, hx)) hy before here

-- the frames between two places can go on after a call, and so can the next
module _ (ks : List Kept) (from i : ℕ) (k : Kept) (there : from + i < length ks)
    (goes : (i ≡ 0) ⊎ (k.frame.counter + 1 < 2 ^ 64)) (before : (j : ℕ) → from < j → j < from + i →
    (get_or ks j no_frame).frame.counter + 1 < 2 ^ 64) where
  goes_at : (j : ℕ) →
      from < j →
      j < from + (i + 1) →
      (j ≡ from + i) ⊎ (j ≡ from + i → ⊥) →
      (get_or (set ks (from + i) k) j no_frame).frame.counter + 1 < 2 ^ 64
  goes_at j above below (inl e) = rw (e, get_or-set_same ks (from + i) k no_frame there) (here goes)
    where
      here : (i ≡ 0) ⊎ (k.frame.counter + 1 < 2 ^ 64) → k.frame.counter + 1 < 2 ^ 64
      here (inl z) = absurd (omega (arith, e, z, above))
      here (inr h) = h
  goes_at j above below (inr n) = rw (get_or-set_other ks (from + i) j k no_frame n)
      (before j above (omega (arith, below, n)))

  pub goes_on : (j : ℕ) →
      from < j →
      j < from + (i + 1) →
      (get_or (set ks (from + i) k) j no_frame).frame.counter + 1 < 2 ^ 64
  goes_on j above below = goes_at j above below (cases_eq j (from + i))

-- the innermost frame and those below it
pub top_and_below : (ks : List Kept) (f : Frame) (fs : List Frame) →
    map (λ k. k.frame) ks ≡ f ∷ fs →
    ((get_or ks 0 no_frame).frame ≡ f) × (map (λ k. k.frame) (drop 1 ks) ≡ fs)
top_and_below [] f fs h = absurd cc
top_and_below (k ∷ ks) f fs h = (cc, cc)

-- other frames of the same memory
module _ (ks new : List Kept) (inner to locals operands : ℕ) (h : IsThread ks inner locals operands)
    (count : length new ≡ length ks) (rooms : HaveRooms locals operands ks → HaveRooms locals operands new) where
  pub frames_set : to < length ks → CallersGoOn to new → IsThread new to locals operands
  frames_set within callers = record {
    inside = omega (arith, within, count);
    deep = count ∙ h.deep;
    rooms = rooms h.rooms;
    callers = callers;
  }

  -- with the lowest of them innermost
  pub lowest_left : 64 ≡ to → IsThread new to locals operands
  lowest_left lowest = frames_set (omega (arith, lowest, h.deep))
      (λ k above within. absurd (omega (arith, above, within, count, h.deep, lowest)))
