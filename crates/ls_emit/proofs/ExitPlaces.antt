-- How much room exits take, and where they begin.
use Rattle.std.proofs.Common.{◌≡◌, ℕ, ◌+◌, List, [], ◌∷◌, map, length, suc, refl, ap}
use Rattle.ls_lowered.specs.declared.tree.Statement.{Statement}
use Rattle.ls_lowered.specs.Plain.{plain_statement, statements_of}
use Rattle.ls_emit.specs.Statements.{statement_size, exits_size, places}
use Rattle.ls_emit.specs.Places.{room, places_by}
use Rattle.ls_emit.specs.Ahead.{exit_sizes, exit_count}

-- the room for exits
pub room_is : (xs : List Statement) →
    room (map (λ s. statement_size (plain_statement s)) xs) ≡ exits_size (statements_of xs)
room_is [] = refl
room_is (x ∷ xs) = ap (λ n. 1 + statement_size (plain_statement x) + n) (room_is xs)

-- where the exits are
pub places_are : (p : ℕ) (xs : List Statement) →
    places_by p (map (λ s. statement_size (plain_statement s)) xs) ≡ places p (statements_of xs)
places_are p [] = refl
places_are p (x ∷ xs) = ap (λ l. (p + 1) ∷ l) (places_are (p + 1 + statement_size (plain_statement x)) xs)

-- the sizes of exits
pub sizes_are : (xs : List Statement) → exit_sizes (statements_of xs) ≡ map (λ s. statement_size (plain_statement s)) xs
sizes_are [] = refl
sizes_are (x ∷ xs) = ap (λ l. statement_size (plain_statement x) ∷ l) (sizes_are xs)

-- how many exits there are
pub count_is : (xs : List Statement) → exit_count (statements_of xs) ≡ length xs
count_is [] = refl
count_is (x ∷ xs) = ap suc (count_is xs)
