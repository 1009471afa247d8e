-- Why `call_of` in src/naming.rt keeps its contract.

use Rattle.std.proofs.Common.{◌∙◌, ◌<◌, ◌^◌, ◌++◌, ◌∷◌, ap, sym, arith}
use Rattle.std.specs.Option.{option_copied}
use Rattle.ls_report.proofs.CutLemmas.{none_is}
use Rattle.ls_orders.specs.Names.{placed}
use Rattle.ls_orders.proofs.NameLemmas.{last_cut, no_call_there, no_number_there}
use Rattle.ls_orders.proofs.naming.call_of.Goals as goal

pub returns-in_err-thread : goal.returns-in_err-thread
returns-in_err-thread c = λ look h.
    let text = c.args.text.now in
    ap option_copied c.from_residual.ensures
    ∙ sym (no_call_there look c.args.calls.now c.args.names.now text h (rw c.in_err-thread.was at
    (last_cut text c.rsplit_once.result c.rsplit_once.ensures.cases)))

pub returns-in_err-number : goal.returns-in_err-number
returns-in_err-number c = λ look h.
    let text = c.args.text.now in
    let thread = c.in_ok-thread.thread.now in
    let digits = c.in_ok-thread.digits.now in
    let p = rw c.in_ok-thread.was at (last_cut text c.rsplit_once.result c.rsplit_once.ensures.cases) in
    ap option_copied c.from_residual-in_err-number.ensures
    ∙ sym (no_number_there look c.args.calls.now c.args.names.now text thread digits h p.0 p.1
    (λ n lt e. none_is (c.in_err-number.ensures.reads n lt e)))

pub returns : goal.returns
returns c = λ look h.
    let text = c.args.text.now in
    let thread = c.in_ok-thread.thread.now in
    let number = c.in_ok-number.number in
    let small : number < 2 ^ 64 = omega arith in
    let p = rw c.in_ok-thread.was at (last_cut text c.rsplit_once.result c.rsplit_once.ensures.cases) in
    c.call_at.ensures ∙ ap (placed c.args.calls.now) c.place_in.ensures
    ∙ sym (ap look (p.0 ∙ ap (λ d. thread ++ 46 ∷ d) c.in_ok-number.ensures.exact) ∙ h.known thread number small)
