-- Where all seats have seen the tape's end, the record is that of the whole tape.
use Rattle.std.proofs.Common.{◌≡◌, ℕ, ◌<◌, ◌≤◌, List, [], ◌∷◌, length, take, subst, ◌∙◌, arith}
use Rattle.std.proofs.lemmas.List.{take_all}
use Rattle.ls_code.specs.Code.{Code}
use Rattle.ls_schedule.specs.Records.{IsRecordOf}
use Rattle.ls_schedule.specs.declared.replaying.Record.{Record}
use Rattle.ls_live.specs.Turns.{AreOver, Closes, SeatState, TurnstileState, steps_of}

-- a seat that has seen the end shows that as many steps were made
all_made : (t : TurnstileState) (seats : List SeatState) (r : Record) →
    0 < t.seats →
    AreOver t seats →
    Closes t seats r →
    length t.tape ≤ steps_of seats
all_made t [] r some over closes = let none = closes.all in absurd (omega arith)
all_made t (c ∷ cs) r some over closes =
    let end = over 0 c (omega arith) in
    let seen = closes.seen 0 c (omega arith) in omega arith

-- if a record closes a whole turnstile, it is the record of its code, cells and tape
pub whole_record : (t : TurnstileState) (seats : List SeatState) (r : Record) (code : Code) (cells : ℕ) (tape : List ℕ)
    →
    t.code ≡ code →
    t.cells ≡ cells →
    t.tape ≡ tape
    → 0 < t.seats → AreOver t seats → Closes t seats r → IsRecordOf code cells tape r
whole_record t seats r code cells tape same_code same_cells same_tape some over closes =
    let whole : take (steps_of seats) t.tape ≡ tape = take_all (steps_of seats) t.tape
    (all_made t seats r some over closes) ∙ same_tape in
    subst (λ (xs : List ℕ). IsRecordOf code cells xs r) whole
    (subst (λ (n : ℕ). IsRecordOf code n (take (steps_of seats) t.tape) r) same_cells
    (subst (λ (p : Code). IsRecordOf p t.cells (take (steps_of seats) t.tape) r) same_code closes.record_of))
