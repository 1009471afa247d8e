-- Why `tokens_are_formed` in src/laws.rt keeps its contract.

use Rattle.ls_lexer.proofs.FormedLaws as forms
use Rattle.ls_lexer.proofs.laws.tokens_are_formed.Goals as goal

pub returns : goal.returns
returns c = forms.tokens_are_formed
