-- A sample, entry by entry.
use Rattle.std.proofs.Common.{◌≡◌, ℕ, ◌+◌, ◌/◌, ◌%◌, ◌<◌, ◌≤◌, ◌||◌, ◌==◌, length, zero, suc, List, [], ◌∷◌, ◌++◌, Bool}
use Rattle.std.proofs.Common.{true, false, refl, ap, ◌∙◌, sym, arith, append_assoc, append-nil}
use Rattle.std.specs.Prelude.{All, if◌then◌else◌}
use Rattle.std.proofs.lemmas.List.Elements.{All-cons, All-nil}
use Rattle.std.proofs.lemmas.Nat.{mod_below}
use Rattle.rand_xoshiro.specs.SplitMix64.{mix_u64}
use Rattle.ls_code.specs.Machine.{Machine, machine_step, machine_run}
use Rattle.ls_batch.specs.Samples.{draws, next_thread, sample_of}
use Rattle.ls_batch.specs.declared.samples.Sampler.{Sampler}

-- the thread that the generator at x gives after a step of `last`
abbrev pub next_at : ℕ → ℕ → ℕ → ℕ → ℕ
next_at threads switch last x = next_thread threads switch last (mix_u64 x).0

pub draws_none : (threads switch last x : ℕ) → draws threads switch last 0 x ≡ []
unfolding draws
draws_none threads switch last x = refl

draws_more : (threads switch last n x : ℕ) →
    draws threads switch last (suc n) x ≡ next_at threads switch last x ∷
    draws threads switch (next_at threads switch last x) n (mix_u64 x).1
unfolding draws
draws_more threads switch last n x = refl

-- the first entry e, and the generator at y behind it
first_drawn : (threads switch last n m x e y : ℕ) →
    n ≡ m + 1 →
    e ≡ next_at threads switch last x →
    y ≡ (mix_u64 x).1 →
    draws threads switch last n x ≡ e ∷ draws threads switch e m y
first_drawn threads switch last n m x e y len is next =
    ap (λ (k : ℕ). draws threads switch last k x) (len ∙ omega arith) ∙ (draws_more threads switch last m x
    ∙ (ap (λ (k : ℕ). k ∷ draws threads switch k m (mix_u64 x).1) (sym is) ∙
    ap (λ (k : ℕ). e ∷ draws threads switch e m k) (sym next)))

-- one entry more
pub drawn_step : (threads switch last n m x e y : ℕ) (xs all : List ℕ) →
    n ≡ m + 1 →
    e ≡ next_at threads switch last x →
    y ≡ (mix_u64 x).1 →
    xs ++ draws threads switch last n x ≡ all
    → (xs ++ e ∷ []) ++ draws threads switch e m y ≡ all
drawn_step threads switch last n m x e y xs all len is next h =
    append_assoc xs (e ∷ []) (draws threads switch e m y) ∙ (ap (λ (ys : List ℕ). xs ++ ys)
    (sym (first_drawn threads switch last n m x e y len is next)) ∙ h)

-- all entries
pub drawn_all : (threads last n x seed : ℕ) (d : Sampler) (xs : List ℕ) →
    0 < threads →
    n ≡ 0 →
    xs ++ draws threads d.switch last n x ≡ draws threads d.switch 0 d.steps seed →
    xs ≡ sample_of seed threads d
drawn_all zero last n x seed d xs some none h = absurd (omega arith)
drawn_all (suc threads) last n x seed d xs some none h =
    sym (append-nil xs) ∙
    (ap (λ (ys : List ℕ). xs ++ ys) (sym (draws_none (suc threads) d.switch last x) ∙
    ap (λ (k : ℕ). draws (suc threads) d.switch last k x) (sym none)) ∙ h)

-- one step more of a run
pub run_step : (threads switch last n m x e y : ℕ) (s t all : Machine) →
    n ≡ m + 1 →
    e ≡ next_at threads switch last x →
    y ≡ (mix_u64 x).1 →
    t ≡ (machine_step s e).machine
    → machine_run s (draws threads switch last n x) ≡ all → machine_run t (draws threads switch e m y) ≡ all
run_step threads switch last n m x e y s t all len is next stepped h =
    ap (λ (z : Machine). machine_run z (draws threads switch e m y)) stepped ∙
    (ap (machine_run s) (sym (first_drawn threads switch last n m x e y len is next)) ∙ h)

-- the whole run
pub drawn_run : (threads last n x seed : ℕ) (d : Sampler) (s t : Machine) →
    0 < threads →
    n ≡ 0 →
    machine_run t (draws threads d.switch last n x) ≡ machine_run s (draws threads d.switch 0 d.steps seed)
    → t ≡ machine_run s (sample_of seed threads d)
drawn_run zero last n x seed d s t some none h = absurd (omega arith)
drawn_run (suc threads) last n x seed d s t some none h =
    ap (machine_run t) (sym (draws_none (suc threads) d.switch last x) ∙
    ap (λ (k : ℕ). draws (suc threads) d.switch last k x) (sym none)) ∙ h

-- a thread that is drawn is there, and so is one that goes on
one_there : (drawn : Bool) (threads number last : ℕ) →
    0 < threads →
    last < threads + 1 →
    (if drawn then 1 + number % threads else last) < threads + 1
one_there true threads number last some there = let below = mod_below number threads some in omega arith
one_there false threads number last some there = there

next_there : (threads switch last x : ℕ) →
    0 < threads →
    last < threads + 1 →
    next_at threads switch last x < threads + 1
next_there threads switch last x some there = one_there (last == 0 || (mix_u64 x).0 % switch == 0) threads
    ((mix_u64 x).0 / switch) last some there

-- the entries are those of threads that are there
drawn_there : (threads switch last n x : ℕ) →
    0 < threads →
    last < threads + 1 →
    All (λ t. t < threads + 1) (draws threads switch last n x)
unfolding draws
drawn_there threads switch last zero x some there = All-nil (λ t. t < threads + 1)
drawn_there threads switch last (suc n) x some there =
    let next = next_there threads switch last x some there in
    All-cons (λ t. t < threads + 1) _ _ next (drawn_there threads switch (next_at threads switch last x) n (mix_u64 x).1
    some next)

pub sample_there : (seed threads : ℕ) (d : Sampler) → All (λ t. t < threads + 1) (sample_of seed threads d)
sample_there seed zero d = All-nil (λ t. t < 0 + 1)
sample_there seed (suc threads) d = drawn_there (suc threads) d.switch 0 d.steps seed (omega arith) (omega arith)

-- as many as are asked for
drawn_count : (threads switch last n x : ℕ) → length (draws threads switch last n x) ≡ n
unfolding draws
drawn_count threads switch last zero x = refl
drawn_count threads switch last (suc n) x = ap suc (drawn_count threads switch (next_at threads switch last x) n
    (mix_u64 x).1)

pub sample_count : (seed threads : ℕ) (d : Sampler) → length (sample_of seed threads d) ≤ d.steps
sample_count seed zero d = omega arith
sample_count seed (suc threads) d = let all = drawn_count (suc threads) d.switch 0 d.steps seed in omega arith
