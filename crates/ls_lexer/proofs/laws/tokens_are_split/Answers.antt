-- Why `tokens_are_split` in src/laws.rt keeps its contract.

use Rattle.ls_lexer.proofs.SplitLaws as splitting
use Rattle.ls_lexer.proofs.laws.tokens_are_split.Goals as goal

pub returns : goal.returns
returns c = splitting.tokens_are_split
