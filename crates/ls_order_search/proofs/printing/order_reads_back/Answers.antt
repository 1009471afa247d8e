-- Why `order_reads_back` in src/printing.rt keeps its contract.

use Rattle.ls_order_search.proofs.ReadsBack.{reads_back}
use Rattle.ls_order_search.proofs.printing.order_reads_back.Goals as goal

pub returns : goal.returns
returns c = reads_back
