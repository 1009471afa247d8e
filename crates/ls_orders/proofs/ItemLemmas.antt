-- Reading one item after the other.
use Rattle.std.proofs.Common.{◌≡◌, ◌∙◌, List, [], ◌∷◌, ◌++◌, refl, sym, ap, append_assoc, Result, Ok, Err}
use Rattle.ls_orders.specs.declared.fault.OrderFault.{OrderFault}
use Rattle.ls_orders.specs.declared.fault.OrderFault.TheVariants as faults
use Rattle.ls_orders.specs.Each.{each, ◌>>=◌}
use Rattle.ls_orders.specs.Orders.{Fails}

-- the front has been read already
abbrev pub with_front : {X E : Type 0} → List X → Result (List X) E → Result (List X) E
with_front front read = read >>= λ xs. Ok (front ++ xs)

push_front : {X E : Type 0} (front : List X) (x : X) (r : Result (List X) E) →
    with_front (front ++ x ∷ []) r ≡ with_front front (r >>= λ ys. Ok (x ∷ ys))
push_front front x (Ok ys) = ap Ok (append_assoc front (x ∷ []) ys)
push_front front x (Err d) = refl

-- one more item is read
pub goes_on : {A X E : Type 0} (f : A → Result X E) (front : List X) (a : A) (x : X) (more : List A)
    (all : Result (List X) E)
    → f a ≡ Ok x → with_front front (each f (a ∷ more)) ≡ all → with_front (front ++ x ∷ []) (each f more) ≡ all
goes_on f front a x more all e h =
    push_front front x (each f more) ∙ ap (λ r. with_front front (r >>= λ y. each f more >>= λ ys. Ok (y ∷ ys))) (sym e)
    ∙ h

-- an item with a fault ends the reading
pub ends : {A X E : Type 0} (f : A → Result X E) (front : List X) (a : A) (d : E) (more : List A)
    (all : Result (List X) E)
    → f a ≡ Err d → with_front front (each f (a ∷ more)) ≡ all → all ≡ Err d
ends f front a d more all e h =
    sym h ∙ ap (λ r. with_front front (r >>= λ y. each f more >>= λ ys. Ok (y ∷ ys))) e

-- if it isn't "out of memory", the fault of an item is the fault of all
pub fails_ends : {X Y : Type 0} (d : OrderFault) (one : Result X OrderFault) (all : Result Y OrderFault) →
    (one ≡ Err d → all ≡ Err d) →
    Fails d one →
    Fails d all
fails_ends faults.Memory one all f h = tt
fails_ends (faults.BadOrder at) one all f h = f h
