-- The copies of a finally block, counted up to a bound.
use Rattle.std.proofs.Common.{◌≡◌, ℕ, ◌+◌, ◌*◌, ◌<◌, ◌≤◌, List, [], ◌∷◌, Option, Some, None, arith}
use Rattle.std.specs.Prelude.{min}
use Rattle.std.proofs.lemmas.Nat.{mul-le}
use Rattle.ls_linker.specs.declared.ways.Way.{Way}
use Rattle.ls_linker.specs.Costs.{total, returned, returned_one}
use Rattle.ls_linker.proofs.Products.{distribute}

at_least : (n f : ℕ) → n ≤ n * (1 + f)
at_least n f = omega (arith, distribute n 1 f)

-- if the copies are few with what is in them, all are counted
pub all_counted : (before t n f : ℕ) → n ≡ min (2 + t) 4099 → before + n * (1 + f) ≤ 4096 → n ≡ 2 + t
all_counted before t n f e h = omega (arith, e, h, at_least n f)

-- if the copies are too many as they are counted, they are too many
pub too_many_counted : (before t n f : ℕ) →
    n ≡ min (2 + t) 4099 →
    4096 < before + n * (1 + f) →
    4096 < before + (2 + t) * (1 + f)
too_many_counted before t n f e h =
    let fewer : n ≤ 2 + t = omega (arith, e) in
    omega (arith, h, mul-le n (1 + f) (2 + t) (1 + f) fewer (omega arith))

one_returned : (o : Option ℕ) (t : ℕ) → returned_one o t ≤ t
one_returned None t = omega arith
one_returned (Some n) t = omega arith

-- no more ways are returns than there are ways
pub returned_le : (ws : List Way) → returned ws ≤ total ws
returned_le [] = omega arith
returned_le (w ∷ ws) = omega (arith, one_returned w.number w.times, returned_le ws)

-- if few ways are counted, all returns are counted
pub returns_counted : (before f r : ℕ) (ws : List Way) →
    r ≡ min (returned ws) 4097 →
    before + (2 + total ws) * (1 + f) ≤ 4096 →
    r ≡ returned ws
returns_counted before f r ws e h = omega (arith, e, h, at_least (2 + total ws) f, returned_le ws)
