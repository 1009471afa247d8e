-- Each wrong code, refuted by a run.
use Rattle.std.proofs.Common.{◌≡◌, ℕ, false, true, List, [], ◌∷◌, ◌++◌, length, ap, refl, arith, replicate}
use Rattle.ls_meaning.specs.Methods.{invoke, depth_limit}
use Rattle.ls_preservation.specs.Example.{file, program}
use Rattle.ls_preservation.specs.Same.{Same}
use Rattle.ls_preservation.specs.Threads.{Asks}
use Rattle.ls_preservation.specs.InTime.{EndsInTime}
use Rattle.ls_preservation.specs.Acting.{ActsInTime}
use Rattle.ls_preservation.specs.WrongCodes.{no_file, no_calls, goes_round, stuck, still, fat, mute, two, swapped}
use Rattle.ls_preservation.specs.WrongCodes.{fewer, locking_file, locking, gives_up, lost_race}

-- the setup's five actions, and T's six
abbrev actions : List ℕ
actions = replicate 5 0 ++ replicate 6 1

-- code that stands still isn't the same
pub still_not : Same file program still → ⊥
unfolding invoke depth_limit
still_not h = let e = (h.forth 9 (record { some = omega arith; most = omega arith; names = omega arith }) (0 ∷ [])
    (omega arith)).traces in cc

-- three cells have no room for the lock
pub fat_not : Same file program fat → ⊥
unfolding invoke depth_limit
fat_not h =
    let e : ◌≡◌ {A = ℕ} 8 9 = ap length
    (h.forth 3 (record { some = omega arith; most = omega arith; names = omega arith })
    (replicate 5 0 ++ replicate 4 1) (omega arith)).traces in
    absurd (omega arith)

-- code that leaves out a return isn't the same
pub mute_not : Same file program mute → ⊥
unfolding invoke depth_limit
mute_not h =
    let e : ◌≡◌ {A = ℕ} 10 11 = ap length
    (h.forth 9 (record { some = omega arith; most = omega arith; names = omega arith }) actions
    (omega arith)).traces in
    absurd (omega arith)

-- code with two threads in each other's place isn't the same
pub swapped_not : Same file two swapped → ⊥
unfolding invoke depth_limit
swapped_not h = let e = (h.forth 9 (record { some = omega arith; most = omega arith; names = omega arith })
    (replicate 5 0 ++ 1 ∷ []) (omega arith)).traces in cc

-- code with a thread too few isn't the same
pub fewer_not : Same file two fewer → ⊥
fewer_not h = let e = h.threads in absurd (omega arith)

-- a thread that isn't over
pub round_asks_not : Asks no_file no_calls goes_round → ⊥
round_asks_not h = let e = h.asks 1 (record { place = 1; need = 0; calls = [] }) [] refl tt in cc

-- a stuck thread doesn't ask what its source asks
pub stuck_asks_not : Asks no_file no_calls stuck → ⊥
stuck_asks_not h = let e = h.asks 1 (record { place = 7; need = 0; calls = [] }) [] refl tt in cc

-- a thread that loops for ever doesn't end in time
pub round_ends_not : EndsInTime no_file no_calls goes_round → ⊥
round_ends_not h = let e = h 1 (record { some = omega arith; most = omega arith; names = omega arith }) (0 ∷ []) 1
    (omega arith) (refl, refl) in cc

-- a stuck thread doesn't end in time
pub stuck_ends_not : EndsInTime no_file no_calls stuck → ⊥
stuck_ends_not h = let e = h 1 (record { some = omega arith; most = omega arith; names = omega arith }) (0 ∷ []) 1
    (omega arith) (refl, refl) in cc

-- 29 instructions, and no action in 1,857 steps
pub gives_up_not : ActsInTime locking_file locking gives_up → ⊥
unfolding invoke depth_limit
gives_up_not h =
    let e : false ≡ true = h 9 (record { some = omega arith; most = omega arith; names = omega arith }) lost_race 1
    (omega arith) (refl, refl) in
    cc
