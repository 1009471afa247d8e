-- Why `programs` in src/lib.rt keeps its contract.

use Rattle.std.proofs.Common.{refl, ap, cond, None, nat_le}
use Rattle.ls_lexer.specs.Tokens.{lexed, tokens_of}
use Rattle.ls_types_programs.specs.ThreadPrograms.{program_of_tokens}
use Rattle.ls_types_rows.specs.Programs.{outcome}
use Rattle.ls_types_rows.proofs.programs.Goals as goal

pub returns-clause-wholes : goal.returns-clause-wholes
unfolding lexed
returns-clause-wholes c = (refl, refl)

pub returns-clause-written_numbers : goal.returns-clause-written_numbers
unfolding lexed
returns-clause-written_numbers c = (refl, refl, refl, refl, refl, refl, refl)

pub returns-clause-plain_arguments : goal.returns-clause-plain_arguments
unfolding lexed
returns-clause-plain_arguments c = (refl, refl, refl, refl, refl, refl, refl, refl, refl, refl)

pub returns-clause-methods_called : goal.returns-clause-methods_called
unfolding lexed
returns-clause-methods_called c = (refl, refl, refl, refl)

pub returns-clause-setup_names : goal.returns-clause-setup_names
unfolding lexed
returns-clause-setup_names c = (refl, refl, refl, refl, refl)

pub returns-clause-thread_names : goal.returns-clause-thread_names
unfolding lexed
returns-clause-thread_names c = (refl, refl, refl, refl, refl)

pub returns-clause-blocks : goal.returns-clause-blocks
unfolding lexed
returns-clause-blocks c = (refl, refl, refl, refl, refl, refl, refl, refl, refl, refl)

pub returns-clause-most_threads : goal.returns-clause-most_threads
unfolding lexed
returns-clause-most_threads c = (refl, refl)

pub returns-clause-most_calls : goal.returns-clause-most_calls
unfolding lexed
returns-clause-most_calls c = (refl, refl)

pub returns-clause-most_bytes : goal.returns-clause-most_bytes
returns-clause-most_bytes c = (
  (λ text e. ap (λ n. cond (nat_le n 262144) (program_of_tokens outcome (tokens_of text)) None) e),
  (λ text e. ap (λ n. cond (nat_le n 262144) (program_of_tokens outcome (tokens_of text)) None) e),
)
