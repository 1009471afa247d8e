-- The request of words that are written out, whatever the parser of sides.
use Rattle.std.proofs.Common.{◌≡◌, refl, true, false, [], ◌∷◌, codes, Some, None}
use Rattle.clap.specs.declared.builder.value_parser.ValueParser.{ValueParser}
use Rattle.clap.proofs.OnLiterals.{clap_on_literals}
use Rattle.ls_command_line.specs.Words.{request_of}
use Rattle.ls_command_line.specs.declared.words.CommandLine.{CommandLine}
use Rattle.ls_command_line.specs.declared.words.Request.{Request}
use Rattle.ls_command_line.specs.declared.words.Request.TheVariants as request

abbrev plainly : Request → CommandLine
plainly r = record { request = r; explain = false; spec = false; java = false }

nine_cells : (p : ValueParser) →
    request_of p (codes "listset" ∷ codes "replay" ∷ codes "--cells" ∷ codes "9" ∷ []) ≡
    Some (plainly (request.Replay 9 false))
unfolding clap_on_literals
nine_cells p = refl

live_turns : (p : ValueParser) →
    request_of p (codes "listset" ∷ codes "replay" ∷ codes "--live" ∷ []) ≡ Some (plainly (request.Replay 65536 true))
unfolding clap_on_literals
live_turns p = refl

default_limit : (p : ValueParser) →
    request_of p (codes "listset" ∷ codes "live" ∷ []) ≡ Some (plainly (request.Live 65536 5000))
unfolding clap_on_literals
default_limit p = refl

a_batch : (p : ValueParser) →
    request_of p (codes "listset" ∷ codes "batch" ∷ codes "--seed" ∷ codes "7" ∷ codes "--count=3" ∷ codes "--steps" ∷
    codes "5" ∷ []) ≡ Some (plainly (request.Batch 7 3 5 1 65536 false))
unfolding clap_on_literals
a_batch p = refl

no_steps : (p : ValueParser) →
    request_of p (codes "listset" ∷ codes "batch" ∷ codes "--seed" ∷ codes "7" ∷ codes "--count=3" ∷ []) ≡ None
unfolding clap_on_literals
no_steps p = refl

no_side : (p : ValueParser) → request_of p (codes "listset" ∷ codes "translate" ∷ []) ≡ None
unfolding clap_on_literals
no_side p = refl

nothing : (p : ValueParser) → request_of p (codes "listset" ∷ []) ≡ None
unfolding clap_on_literals
nothing p = refl

twice : (p : ValueParser) →
    request_of p (codes "listset" ∷ codes "replay" ∷ codes "--cells=9" ∷ codes "--cells=9" ∷ []) ≡ None
unfolding clap_on_literals
twice p = refl

too_large : (p : ValueParser) →
    request_of p (codes "listset" ∷ codes "live" ∷ codes "--limit" ∷ codes "18446744073709551616" ∷ []) ≡ None
unfolding clap_on_literals
too_large p = refl

help : (p : ValueParser) → request_of p (codes "listset" ∷ codes "--help" ∷ []) ≡ None
unfolding clap_on_literals
help p = refl

explained : (p : ValueParser) →
    request_of p (codes "listset" ∷ codes "source" ∷ codes "--explain" ∷ []) ≡
    Some (record { request = request.Source; explain = true; spec = false; java = false })
unfolding clap_on_literals
explained p = refl

by_a_reference : (p : ValueParser) →
    request_of p (codes "listset" ∷ codes "explore" ∷ codes "--verdict" ∷ codes "--spec" ∷ []) ≡
    Some (record { request = request.Verdict 1000000 false; explain = false; spec = true; java = false })
unfolding clap_on_literals
by_a_reference p = refl

of_a_java_file : (p : ValueParser) →
    request_of p (codes "listset" ∷ codes "compile" ∷ codes "--java" ∷ []) ≡
    Some (record { request = request.Compile; explain = false; spec = false; java = true })
unfolding clap_on_literals
of_a_java_file p = refl

not_twice : (p : ValueParser) → request_of p (codes "listset" ∷ codes "java" ∷ codes "--java" ∷ []) ≡ None
unfolding clap_on_literals
not_twice p = refl

some_steps : (p : ValueParser) →
    request_of p (codes "listset" ∷ codes "trace" ∷ codes "--from" ∷ codes "12" ∷ []) ≡
    Some (plainly (request.Trace 12 1000000 false))
unfolding clap_on_literals
some_steps p = refl

a_drawing : (p : ValueParser) →
    request_of p (codes "listset" ∷ codes "state" ∷ codes "--dot" ∷ []) ≡ Some (plainly (request.State true 1000000))
unfolding clap_on_literals
a_drawing p = refl

version : (p : ValueParser) → request_of p (codes "listset" ∷ codes "--version" ∷ []) ≡ None
unfolding clap_on_literals
version p = refl

few_states : (p : ValueParser) →
    request_of p (codes "listset" ∷ codes "explore" ∷ codes "--states" ∷ codes "12" ∷ []) ≡
    Some (plainly (request.Explore None 12 false false false false))
unfolding clap_on_literals
few_states p = refl

judged : (p : ValueParser) →
    request_of p (codes "listset" ∷ codes "batch" ∷ codes "--judge" ∷ codes "--seed=1" ∷ codes "--count=3" ∷
    codes "--steps=5" ∷ [])
    ≡ Some (plainly (request.Batch 1 3 5 1 65536 true))
unfolding clap_on_literals
judged p = refl

a_sample : (p : ValueParser) →
    request_of p (codes "listset" ∷ codes "sample" ∷ codes "--seed" ∷ codes "7" ∷ codes "--steps=5" ∷ []) ≡
    Some (plainly (request.Sample 7 5 1 65536))
unfolding clap_on_literals
a_sample p = refl

rarely : (p : ValueParser) →
    request_of p (codes "listset" ∷ codes "sample" ∷ codes "--seed" ∷ codes "7" ∷ codes "--steps=5" ∷ codes "--switch" ∷
    codes "20" ∷ []) ≡ Some (plainly (request.Sample 7 5 20 65536))
unfolding clap_on_literals
rarely p = refl

rarely_judged : (p : ValueParser) →
    request_of p (codes "listset" ∷ codes "batch" ∷ codes "--switch=20" ∷ codes "--seed=1" ∷ codes "--count=3" ∷
    codes "--steps=5" ∷ codes "--judge" ∷ [])
    ≡ Some (plainly (request.Batch 1 3 5 20 65536 true))
unfolding clap_on_literals
rarely_judged p = refl

no_seed : (p : ValueParser) → request_of p (codes "listset" ∷ codes "sample" ∷ codes "--steps=5" ∷ []) ≡ None
unfolding clap_on_literals
no_seed p = refl

few_cells : (p : ValueParser) →
    request_of p (codes "listset" ∷ codes "explore" ∷ codes "--cells=99" ∷ codes "--first" ∷ []) ≡
    Some (plainly (request.Explore (Some 99) 1000000 false true false false))
unfolding clap_on_literals
few_cells p = refl

first_illegal : (p : ValueParser) →
    request_of p (codes "listset" ∷ codes "explore" ∷ codes "--illegal" ∷ codes "--first" ∷ []) ≡
    Some (plainly (request.Explore None 1000000 true true false false))
unfolding clap_on_literals
first_illegal p = refl

with_progress : (p : ValueParser) →
    request_of p (codes "listset" ∷ codes "explore" ∷ codes "--progress" ∷ codes "--states=70000" ∷ []) ≡
    Some (plainly (request.Explore None 70000 false false false true))
unfolding clap_on_literals
with_progress p = refl

with_orders : (p : ValueParser) →
    request_of p (codes "listset" ∷ codes "explore" ∷ codes "--order" ∷ []) ≡
    Some (plainly (request.Explore None 1000000 false false true false))
unfolding clap_on_literals
with_orders p = refl

a_verdict : (p : ValueParser) →
    request_of p (codes "listset" ∷ codes "explore" ∷ codes "--verdict" ∷ []) ≡
    Some (plainly (request.Verdict 1000000 false))
unfolding clap_on_literals
a_verdict p = refl

a_mixed_verdict : (p : ValueParser) →
    request_of p (codes "listset" ∷ codes "explore" ∷ codes "--states=9" ∷ codes "--verdict" ∷ codes "--first" ∷ []) ≡
    Some (plainly (request.Verdict 9 true))
unfolding clap_on_literals
a_mixed_verdict p = refl

a_verdict_with_orders : (p : ValueParser) →
    request_of p (codes "listset" ∷ codes "explore" ∷ codes "--order" ∷ codes "--verdict" ∷ []) ≡
    Some (plainly (request.Verdict 1000000 true))
unfolding clap_on_literals
a_verdict_with_orders p = refl

an_aim : (p : ValueParser) → request_of p (codes "listset" ∷ codes "aim" ∷ []) ≡ Some (plainly request.Aim)
unfolding clap_on_literals
an_aim p = refl

a_java_file : (p : ValueParser) → request_of p (codes "listset" ∷ codes "java" ∷ []) ≡ Some (plainly request.Java)
unfolding clap_on_literals
a_java_file p = refl

a_page : (p : ValueParser) →
    request_of p (codes "listset" ∷ codes "page" ∷ codes "--to=9" ∷ []) ≡
    Some (plainly (request.Page (record { from = None; to = Some 9; choose = false; states = None })))
unfolding clap_on_literals
a_page p = refl

choices : (p : ValueParser) →
    request_of p (codes "listset" ∷ codes "page" ∷ codes "--choose" ∷ codes "--states" ∷ codes "7" ∷ []) ≡
    Some (plainly (request.Page (record { from = None; to = None; choose = true; states = Some 7 })))
unfolding clap_on_literals
choices p = refl

a_fold : (p : ValueParser) →
    request_of p (codes "listset" ∷ codes "trace" ∷ codes "--fold" ∷ codes "--to=9" ∷ []) ≡
    Some (plainly (request.Trace 1 9 true))
unfolding clap_on_literals
a_fold p = refl

each_state : (p : ValueParser) →
    request_of p (codes "listset" ∷ codes "state" ∷ codes "--each" ∷ codes "--to" ∷ codes "7" ∷ []) ≡
    Some (plainly (request.States false 1 7))
unfolding clap_on_literals
each_state p = refl

states_from : (p : ValueParser) →
    request_of p (codes "listset" ∷ codes "state" ∷ codes "--from" ∷ codes "3" ∷ []) ≡
    Some (plainly (request.States false 3 1000000))
unfolding clap_on_literals
states_from p = refl

state_to : (p : ValueParser) →
    request_of p (codes "listset" ∷ codes "state" ∷ codes "--to" ∷ codes "7" ∷ []) ≡
    Some (plainly (request.State false 7))
unfolding clap_on_literals
state_to p = refl

a_merge : (p : ValueParser) →
    request_of p (codes "listset" ∷ codes "merge" ∷ codes "--count=80000" ∷ []) ≡
    Some (plainly (request.Merge (Some 80000)))
unfolding clap_on_literals
a_merge p = refl

any_merge : (p : ValueParser) →
    request_of p (codes "listset" ∷ codes "merge" ∷ []) ≡ Some (plainly (request.Merge None))
unfolding clap_on_literals
any_merge p = refl
