-- Why `Turnstile::dealt` in src/turnstile.rt keeps its loop `thread`.

use Rattle.std.proofs.Common.{◌≡◌, ◌+◌, ◌-◌, ℕ, List, [], ◌∷◌, ◌++◌, map, ap, subst, ◌∙◌, sym, arith, rules}
use Rattle.std.proofs.lemmas.List.Elements.{All-push}
use Rattle.std.proofs.lemmas.List.FromFn.{map-range_with_len_more}
use Rattle.std.specs.List.{All, range_with_len}
use Rattle.ls_code.specs.Machine.{loaded}
use Rattle.ls_live.specs.Turns.{IsSeatOf, SeatState, TurnstileState, new_seat}
use Rattle.ls_live.specs.Views.{dealer}
use Rattle.ls_live.proofs.turnstile.Turnstile.dealt.Goals as goal

pub loop-thread-preserved : goal.loop-thread-preserved
loop-thread-preserved c =
    let t = c.args.self.now in
    let n = c.loop-thread.thread in
    let k = c.self.inside.table.shared.key in
    let seats = c.self.invariant.1 in
    let seat : c.seat_of-seat.result ≡ new_seat t n = c.seat_of-seat.ensures.seat ∙
    ap (λ (s : TurnstileState). new_seat s n) c.self.view_is in
    let of : IsSeatOf t c.seat_of-seat.result = (
      ap (λ (s : SeatState). s.id) seat,
      ap (λ (s : SeatState). s.start) seat,
      ap (λ (s : SeatState). s.tape) seat,
    ) in
    record {
      id = c.seat_of-seat.ensures.id ∙ c.loop-thread.invariant.id;
      hand = c.seat_of-seat.ensures.hand
          ∙ (ap (λ (m : ℕ). (dealer (loaded k.code.value k.cells) k.tape.value.items m (n + 1), [])) (omega arith)
          ∙ ap (λ (s : TurnstileState). (dealer (loaded s.code s.cells) s.tape (s.seats - (n + 1)) (n + 1), []))
          c.self.view_is);
      seats = c.push_reserved.ensures.items
          ∙ (ap (λ (xs : List SeatState). xs ++ c.seat_of-seat.result ∷ []) c.loop-thread.invariant.seats
          ∙ (ap (λ (y : SeatState). map (new_seat t) (range_with_len 0 n) ++ y ∷ []) seat
          ∙ sym (map-range_with_len_more (new_seat t) 0 n n (omega arith))));
      of = subst (λ (xs : List SeatState). All (IsSeatOf t) xs) (sym c.push_reserved.ensures.items)
          (All-push (IsSeatOf t) c.loop-thread.row.items c.seat_of-seat.result c.loop-thread.invariant.of of);
      count = search rules;
      room = search rules;
    }
