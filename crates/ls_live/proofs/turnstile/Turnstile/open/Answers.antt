-- Why `Turnstile::open` in src/turnstile.rt keeps its clauses `threads` and `some`.

use Rattle.std.proofs.Common.{ap, ◌∙◌, sym, length, arith, rules}
use Rattle.ls_live.proofs.turnstile.Turnstile.open.Goals as goal

pub invariant_of-turnstile : goal.invariant_of-turnstile
invariant_of-turnstile c =
    let key = c.in_ok-table.ensures.key in
    let counts = c.in_ok-table.ensures.counts in
    let starts = ap length (c.starts-seats.ensures.starts ∙ ap (λ p. p.starts) c.code-2.ensures) in
    let some = c.has_setup.ensures in (
      sym (ap (λ k. k.tape.value.items) key ∙ ap (λ t. t.items) c.of-2.ensures),
      sym (ap (λ k. k.seats) key),
      omega (arith, starts, some),
      search rules,
      counts.0,
      counts.1,
    )

pub returns-clause-threads : goal.returns-clause-threads
returns-clause-threads c = ap (λ k. k.seats) c.in_ok-table.ensures.key ∙
    ap length (c.starts-seats.ensures.starts ∙ ap (λ p. p.starts) c.code-2.ensures)

pub returns-clause-some : goal.returns-clause-some
returns-clause-some c =
    let same = ap (λ k. k.seats) c.in_ok-table.ensures.key in
    let starts = ap length (c.starts-seats.ensures.starts ∙ ap (λ p. p.starts) c.code-2.ensures) in
    let some = c.has_setup.ensures in
    omega (arith, same, starts, some)
