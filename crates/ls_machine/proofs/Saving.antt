-- A machine that is set as it was saved: what it was made of stays, and its events have room.
use Rattle.std.proofs.Common.{◌≡◌, ℕ, zero, suc, ◌+◌, ◌*◌, ◌≤◌, List, [], ◌∷◌, length, map, ap, sym, subst, ◌∙◌, arith}
use Rattle.std.proofs.lemmas.List.{length-map}
use Rattle.std.proofs.lemmas.List.Sums.{sum_by-cons}
use Rattle.std.specs.List.{All, sum_by}
use Rattle.ls_code.specs.Code.{Code, Start}
use Rattle.ls_code.specs.Cells.{Cells}
use Rattle.ls_machine_threads.specs.Memory.{KeptThread, MethodsFit, events_left}
use Rattle.ls_machine.specs.Back.{IsOf}
use Rattle.ls_machine.specs.Room.{HasMemory}
use Rattle.ls_machine.proofs.Back.{calls_of}

-- a thread can have two events of each call
left_of_calls : (t : KeptThread) → events_left t.thread ≤ 2 * length (calls_of t)
left_of_calls t = omega arith

pub left_fits : (ss : List Start) (ts : List KeptThread) →
    map calls_of ts ≡ map (λ (s : Start). s.calls) ss →
    sum_by (λ t. events_left t.thread) ts ≤ sum_by (λ s. 2 * length s.calls) ss
left_fits [] [] h = omega arith
left_fits [] (t ∷ ts) h = absurd cc
left_fits (s ∷ ss) [] h = absurd cc
left_fits (s ∷ ss) (t ∷ ts) h =
    let here : calls_of t ≡ s.calls = cc in
    let rest : map calls_of ts ≡ map (λ (x : Start). x.calls) ss = cc in
    omega (
      arith,
      left_of_calls t,
      ap length here,
      left_fits ss ts rest,
      sum_by-cons (λ (x : KeptThread). events_left x.thread) t ts,
      sum_by-cons (λ (x : Start). 2 * length x.calls) s ss,
    )

-- what is known of the memory of each thread
all_rooms : (P : ℕ → ℕ → Type 0) (ts new : List KeptThread) →
    map (λ (t : KeptThread). t.locals_room) new ≡ map (λ (t : KeptThread). t.locals_room) ts →
    map (λ (t : KeptThread). t.operands_room) new ≡ map (λ (t : KeptThread). t.operands_room) ts →
    All (λ t. P t.locals_room t.operands_room) ts →
    All (λ t. P t.locals_room t.operands_room) new
all_rooms P ts [] a b h k d l = absurd (omega arith)
all_rooms P [] (n ∷ new) a b h k d l = absurd cc
all_rooms P (t ∷ ts) (n ∷ new) a b h zero d l =
    let locals : n.locals_room ≡ t.locals_room = cc in
    let operands : n.operands_room ≡ t.operands_room = cc in
    subst (λ x. P x n.operands_room) (sym locals) (subst (λ y. P t.locals_room y) (sym operands) (h 0 d (omega arith)))
all_rooms P (t ∷ ts) (n ∷ new) a b h (suc k) d l =
    let locals : map (λ (x : KeptThread). x.locals_room) new ≡ map (λ (x : KeptThread). x.locals_room) ts = cc in
    let operands : map (λ (x : KeptThread). x.operands_room) new ≡ map (λ (x : KeptThread). x.operands_room) ts = cc in
    all_rooms P ts new locals operands (λ j e m. h (suc j) e (omega arith)) k d (omega arith)

-- other threads of the same calls and memory
module _ (p : Code) (ts new : List KeptThread) (c c' : Cells) (limit : ℕ) (is : IsOf p ts c limit)
    (calls : map calls_of new ≡ map calls_of ts) (locals : map (λ (t : KeptThread). t.locals_room) new ≡ map
    (λ (t : KeptThread). t.locals_room) ts) (operands : map (λ (t : KeptThread). t.operands_room) new ≡ map
    (λ (t : KeptThread). t.operands_room) ts) where
  pub of_set : c'.names ≡ c.names → c'.sizes ≡ c.sizes → c'.limit ≡ c.limit → IsOf p new c' limit
  of_set names sizes cells = record {
    calls = calls ∙ is.calls;
    needs = all_rooms (λ l o. All (λ s. s.need ≤ o) p.starts) ts new locals operands is.needs;
    names = names ∙ is.names;
    sizes = sizes ∙ is.sizes;
    room = let r = is.room in omega (arith, cells, r);
    events = is.events;
  }

  pub left_small : sum_by (λ t. events_left t.thread) new ≤ limit
  left_small = let l = left_fits p.starts new (calls ∙ is.calls) in let e = is.events in omega (arith, l, e)

  pub memory_set : (events old left : ℕ) →
      HasMemory p ts old limit →
      left ≡ sum_by (λ t. events_left t.thread) new →
      events + left ≤ limit →
      HasMemory p new events limit
  memory_set events old left m count fits = record {
    few = let n = length-map new calls_of in let o = length-map ts calls_of in let s = ap length calls in
        let few = m.few in omega (arith, n, o, s, few);
    fit = all_rooms (λ l o. MethodsFit p.methods l o) ts new locals operands m.fit;
    events_fit = omega (arith, count, fits);
  }
