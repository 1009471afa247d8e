-- Why `reads_words` in src/laws.rt keeps its contract.

use Rattle.ls_lexer.proofs.WordLaws as words
use Rattle.ls_lexer.proofs.laws.reads_words.Goals as goal

pub returns : goal.returns
returns c = words.reads_words
