-- Why `pieces_are_texts` in src/laws.rt keeps its contract.

use Rattle.ls_java_lexer.proofs.PieceLaws as pieces
use Rattle.ls_java_lexer.proofs.laws.pieces_are_texts.Goals as goal

pub returns : goal.returns
returns c = pieces.pieces_are_texts
