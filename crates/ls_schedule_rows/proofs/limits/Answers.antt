-- Why `limits` in src/lib.rt keeps its contract.

use Rattle.ls_events.specs.Limits.{most_steps}
use Rattle.std.proofs.Common.{◌≡◌, ◌∙◌, ◌*◌, ◌<◌, ℕ, zero, suc, List, length, refl, sym, ap, subst, arith, cond}
use Rattle.std.proofs.Common.{replicate, Ok, Err}
use Rattle.std.specs.Prelude.{nat_lt}
use Rattle.std.proofs.lemmas.List.{length-append, length-replicate}
use Rattle.std.proofs.lemmas.Bool.{lt-ltb}
use Rattle.ls_lexer.specs.Names.{is_name}
use Rattle.ls_schedule.specs.declared.fault.ScheduleFault.TheVariants.{TooManySteps}
use Rattle.ls_schedule.specs.Reading.{repeated, within, ◌>>=◌}
use Rattle.ls_schedule_rows.proofs.limits.Goals as goal

pub returns-clause-long_counts : goal.returns-clause-long_counts
unfolding is_name
returns-clause-long_counts c = (refl, refl, refl, refl)

pub returns-clause-long_group_counts : goal.returns-clause-long_group_counts
returns-clause-long_group_counts c = (refl, refl)

repeated_length : (n : ℕ) (steps : List ℕ) → length (repeated n steps) ≡ n * length steps
repeated_length zero steps = omega arith
repeated_length (suc n) steps = omega (arith, length-append steps (repeated n steps), repeated_length n steps)

pub returns-clause-counts_in_one_another : goal.returns-clause-counts_in_one_another
returns-clause-counts_in_one_another c m n steps over =
    let len : length (repeated m (repeated n steps)) ≡ m * (n * length steps) = repeated_length m (repeated n steps) ∙
    ap (λ k. m * k) (repeated_length n steps) in
    let more : most_steps < length (repeated m (repeated n steps)) = subst (λ k. most_steps < k) (sym len) over in
    ap (λ b. cond b (Err TooManySteps) (Ok (repeated m (repeated n steps))))
    (lt-ltb most_steps (length (repeated m (repeated n steps))) more)

pub returns-clause-groups_past_the_limit : goal.returns-clause-groups_past_the_limit
returns-clause-groups_past_the_limit c ps steps is over =
    ap (λ r. r >>= within) is ∙ ap (λ b. cond b (Err TooManySteps) (Ok steps)) (lt-ltb most_steps (length steps) over)

pub returns-clause-most_steps : goal.returns-clause-most_steps
returns-clause-most_steps c t = ap (λ n. cond (nat_lt most_steps n) (Err TooManySteps) (Ok (replicate most_steps t)))
    (length-replicate most_steps t)

pub returns-clause-one_step_too_many : goal.returns-clause-one_step_too_many
returns-clause-one_step_too_many c t = ap (λ n. cond (nat_lt most_steps n) (Err TooManySteps)
    (Ok (replicate 1000001 t))) (length-replicate 1000001 t)

pub returns-clause-faults_before_the_length : goal.returns-clause-faults_before_the_length
unfolding is_name
returns-clause-faults_before_the_length c = (refl, refl, refl)
