-- A thread's frames, of which one or two change and keep their memory.
use Rattle.std.proofs.Common.{◌≡◌, ℕ, ◌+◌, ◌-◌, ◌<◌, ◌≤◌, ◌^◌, ◌⊎◌, inl, inr, List, length, set, get_or, refl, ap, sym}
use Rattle.std.proofs.Common.{◌∙◌, arith}
use Rattle.std.proofs.lemmas.Bool.{cases_eq}
use Rattle.std.proofs.lemmas.List.{get_or_read, get_or_default, get_or-set_same, get_or-set_other, length-set}
use Rattle.std.proofs.lemmas.List.{set-get_or}
use Rattle.ls_code.specs.Frame.{Frame}
use Rattle.ls_machine_threads.specs.Memory.{HaveRooms, IsThread}
use Rattle.ls_machine_moves.specs.Frames.{Kept, keeping, no_frame}

module _ (ks : List Kept) (at locals operands : ℕ) (old new : Kept) (f : Frame) (has : HaveRooms locals operands ks)
    (there : at < length ks) (was : old ≡ get_or ks at old) (is : new ≡ keeping old f) where
  same_rooms : (new.locals_room ≡ locals) × (new.operands_room ≡ operands)
  same_rooms =
      let here = get_or_read ks at old there was no_frame in
      let rooms = has at there in (
        ap (λ (k : Kept). k.locals_room) is ∙ (ap (λ (k : Kept). k.locals_room) here ∙ rooms.0),
        ap (λ (k : Kept). k.operands_room) is ∙ (ap (λ (k : Kept). k.operands_room) here ∙ rooms.1),
      )

  room_at : (j : ℕ) →
      j < length ks →
      (j ≡ at) ⊎ (j ≡ at → ⊥) →
      ((get_or (set ks at new) j no_frame).locals_room ≡ locals) ×
      ((get_or (set ks at new) j no_frame).operands_room ≡ operands)
  room_at j within (inl e) = rw (e, get_or-set_same ks at new no_frame there) same_rooms
  room_at j within (inr n) = rw (get_or-set_other ks at j new no_frame n) (has j within)

  pub rooms_stay : HaveRooms locals operands (set ks at new)
  rooms_stay = let count = length-set ks at new in λ j within. room_at j (omega (arith, count, within)) (cases_eq j at)

-- the frame that changes is innermost now
pub innermost : (ks : List Kept) (inner at locals operands : ℕ) (old new : Kept) (f : Frame) →
    IsThread ks inner locals operands →
    inner ≤ at →
    at < length ks →
    old ≡ get_or ks at old →
    new ≡ keeping old f →
    IsThread (set ks at new) at locals operands
innermost ks inner at locals operands old new f h below there was is =
    let count = length-set ks at new in
    record {
      inside = omega (arith, count, there);
      deep = count ∙ h.deep;
      rooms = rooms_stay ks at locals operands old new f h.rooms there was is;
      callers = λ j above within. rw (get_or-set_other ks at j new no_frame (omega (arith, above)))
          (h.callers j (omega (arith, above, below)) (omega (arith, count, within)));
    }

-- the innermost frame changes and can go on after its call, and the one above it is innermost now
module _ (ks : List Kept) (i locals operands : ℕ) (a b : Frame) (h : IsThread ks i locals operands) (above : 0 < i)
    (goes_on : b.counter + 1 < 2 ^ 64) where
  abbrev callee : Kept
  callee = keeping (get_or ks (i - 1) no_frame) a

  abbrev caller : Kept
  caller = keeping (get_or ks i no_frame) b

  counter_at : (j : ℕ) →
      i - 1 < j →
      j < length ks →
      (j ≡ i) ⊎ (j ≡ i → ⊥) →
      (get_or (set (set ks (i - 1) callee) i caller) j no_frame).frame.counter + 1 < 2 ^ 64
  counter_at j over within (inl e) =
      let count = length-set ks (i - 1) callee in
      rw (e, get_or-set_same (set ks (i - 1) callee) i caller no_frame (omega (arith, count, h.inside))) goes_on
  counter_at j over within (inr n) = rw (
    get_or-set_other (set ks (i - 1) callee) i j caller no_frame n,
    get_or-set_other ks (i - 1) j callee no_frame (omega (arith, over)),
  ) (h.callers j (omega (arith, over, n)) within)

  pub one_above : IsThread (set (set ks (i - 1) callee) i caller) (i - 1) locals operands
  one_above =
      let first = length-set ks (i - 1) callee in
      let count = length-set (set ks (i - 1) callee) i caller in
      let here : get_or (set ks (i - 1) callee) i no_frame ≡ get_or ks i no_frame = get_or-set_other ks (i - 1) i callee
      no_frame (omega (arith, above)) in
      let rooms = rooms_stay ks (i - 1) locals operands (get_or ks (i - 1) no_frame) callee a h.rooms
      (omega (arith, h.inside)) (get_or_default ks (i - 1) no_frame _ (omega (arith, h.inside))) refl in
      record {
        inside = omega (arith, count, first, h.inside);
        deep = count ∙ (first ∙ h.deep);
        rooms = rooms_stay (set ks (i - 1) callee) i locals operands (get_or ks i no_frame) caller b rooms
            (omega (arith, first, h.inside)) (sym here ∙ get_or_default (set ks (i - 1) callee) i no_frame _
            (omega (arith, first, h.inside))) refl;
        callers = λ j over within. counter_at j over (omega (arith, count, first, within)) (cases_eq j i);
      }

-- a frame that stays as it was
pub left_alone : (ks : List Kept) (at : ℕ) (old : Kept) → old ≡ get_or ks at old → set ks at old ≡ ks
left_alone ks at old was = ap (set ks at) was ∙ set-get_or ks at old
