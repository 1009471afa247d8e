-- If all seats agree with a record, and each was told Over or Full, then each thread is over after the record, or the
-- record is full.
use Rattle.std.proofs.Common.{◌≡◌, ℕ, ◌<◌, ◌⊎◌, inl, inr, ⊎_elim, zero, suc, List, [], ◌∷◌, length, Bool, true, false}
use Rattle.std.proofs.Common.{refl, sym, ◌∙◌, arith, rules, get_or, subst}
use Rattle.std.specs.Prelude.{slice_get, Some, ◌&&◌}
use Rattle.std.specs.List.{list_all}
use Rattle.std.proofs.lemmas.Option.{slice_get_within, slice_get-get_or}
use Rattle.ls_code.specs.Code.{Code}
use Rattle.ls_code.specs.Machine.{Machine, loaded, machine_run}
use Rattle.ls_live.specs.Answers.{is_over}
use Rattle.ls_live.specs.Records.{IsDone}
use Rattle.ls_live.specs.Seats.{is_told, AreInOrder}
use Rattle.ls_live.specs.BookSeats.{Seat, seat_of, agrees, told_agrees}
use Rattle.ls_live.specs.declared.book.Told.{Told}
use Rattle.ls_live.specs.declared.book.Told.TheVariants as told
use Rattle.ls_schedule.specs.Records.{scheduled}
use Rattle.ls_schedule.specs.declared.replaying.Record.{Record}

both : (a b : Bool) → (a && b) ≡ true → (a ≡ true) × (b ≡ true)
both true b h = (refl, h)
both false b h = absurd (cc)

told_ends : (start : Machine) (limit : ℕ) (schedule : List ℕ) (t : ℕ) (last : Told) →
    told_agrees start limit schedule t last ≡ true →
    is_told last ≡ true
    → (is_over (machine_run start schedule) t ≡ true) ⊎ (length schedule ≡ limit)
told_ends start limit schedule t told.Nothing h k = absurd (cc)
told_ends start limit schedule t told.Over h k = inl h
told_ends start limit schedule t told.Full h k = inr (search rules)

at_cons : (m : Machine) (x : Seat) (xs : List Seat) → is_over m x.thread ≡ true
    → ((i : ℕ) (s : Seat) → slice_get xs i ≡ Some s → is_over m s.thread ≡ true)
    → (i : ℕ) (s : Seat) → slice_get (x ∷ xs) i ≡ Some s → is_over m s.thread ≡ true
at_cons m x xs over rest zero s e = let same : x ≡ s = cc in subst (λ (s : Seat). is_over m s.thread ≡ true) same over
at_cons m x xs over rest (suc i) s e = rest i s e

all_end : (start : Machine) (limit : ℕ) (schedule : List ℕ) (seats : List Seat) →
    list_all (agrees start limit schedule) seats ≡ true →
    list_all (λ s. is_told s.told) seats ≡ true
    → ((i : ℕ) (s : Seat) → slice_get seats i ≡ Some s → is_over (machine_run start schedule) s.thread ≡ true) ⊎
    (length schedule ≡ limit)
unfolding agrees
all_end start limit schedule [] h k = inl (λ i s e. absurd (cc))
all_end start limit schedule (x ∷ xs) h k =
    let a = both (agrees start limit schedule x) (list_all (agrees start limit schedule) xs) h in
    let b = both (is_told x.told) (list_all (λ s. is_told s.told) xs) k in
    ⊎_elim
    (λ over.
    ⊎_elim
    (λ rest. inl (λ i s e. at_cons (machine_run start schedule) x xs over rest i s e))
    (λ full. inr full)
    (all_end start limit schedule xs a.1 b.1))
    (λ full. inr full)
    (told_ends start limit schedule x.thread x.told (both _ _ a.0).1 b.0)

-- seats as they are opened are those of each thread
pub opened_in_order : (n : ℕ) (seats : List Seat) →
    length seats ≡ n →
    ((t : ℕ) → t < n → slice_get seats t ≡ Some (seat_of t 0 told.Nothing)) →
    AreInOrder seats
opened_in_order n seats len h i s e =
    let within = slice_get_within seats i s e in
    let same : Some (seat_of i 0 told.Nothing) ≡ Some s = sym (h i (omega arith)) ∙ e in
    cc

-- seats of each thread of a code that were told so, and that agree with a record of its run
pub all_done : (start : Machine) (most : ℕ) (code : Code) (cells limit : ℕ) (r : Record) (seats : List Seat) →
    start ≡ loaded code cells →
    most ≡ limit
    → length seats ≡ length code.starts → AreInOrder seats
    → list_all (agrees start most (scheduled r)) seats ≡ true → list_all (λ s. is_told s.told) seats ≡ true →
    IsDone code cells limit r
all_done start most code cells limit r seats es em len each h k =
    let a =
    subst (λ (m : Machine). list_all (agrees m limit (scheduled r)) seats ≡ true) es
    (subst (λ (n : ℕ). list_all (agrees start n (scheduled r)) seats ≡ true) em h) in
    ⊎_elim
    (λ over. inl (λ i lt.
    let e = slice_get-get_or seats i (seat_of 0 0 told.Nothing) (omega arith) in
    let t = each i (get_or seats i (seat_of 0 0 told.Nothing)) e in
    let o = over i (get_or seats i (seat_of 0 0 told.Nothing)) e in
    subst (λ (q : ℕ). is_over (machine_run (loaded code cells) (scheduled r)) q ≡ true) t o))
    (λ full. inr full)
    (all_end (loaded code cells) limit (scheduled r) seats a k)
