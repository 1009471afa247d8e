-- What spells a program is read.
use Rattle.std.proofs.Common.{◌≡◌, ℕ, zero, suc, ◌+◌, ◌<◌, ◌≤◌, refl, sym, ◌∙◌, subst, ap, Bool, true, false, not, ◌&&◌}
use Rattle.std.proofs.Common.{◌||◌, List, [], ◌∷◌, ◌++◌, append_assoc, length, length-append, map, Option, Some, None}
use Rattle.std.proofs.Common.{nat_lt, ◌==◌, pos, arith, if◌then◌else◌, bytes_eq, codes}
use Rattle.std.proofs.lemmas.Bool.{lt-ltb, le-leb, eq-eqb}
use Rattle.std.proofs.Common.{◌⊎◌, inl, inr, ltb-true}
use Rattle.std.specs.Prelude.{slice_get, neg_ℤ, is_some, option_map}
use Rattle.ls_checked.specs.Limits.{most_threads}
use Rattle.ls_lexer.specs.declared.sign.Sign.TheVariants as signs
use Rattle.ls_lexer.specs.declared.word.Word.TheVariants as words
use Rattle.ls_lexer.specs.Lexemes.{Lexeme, Named, Reserved, Marked}
use Rattle.ls_lexer.specs.Numbers.{value_of}
use Rattle.ls_events.specs.declared.value.Value.{Value}
use Rattle.ls_events.specs.declared.value.Value.TheVariants as values
use Rattle.ls_events.specs.declared.value.ValueType.{ValueType}
use Rattle.ls_events.specs.declared.value.ValueType.TheVariants as types
use Rattle.ls_checked.specs.CheckedProgram.{SetupName, ProgramCall, Making, Calling, ThreadProgram}
use Rattle.ls_types_elaboration.specs.Trees.{Text}
use Rattle.ls_types_elaboration.specs.TypedExpressions.{digits_value}
use Rattle.ls_types_elaboration.specs.Known.{MethodSign, number_of, method_named, methods_in, parameters_in}
use Rattle.ls_types_elaboration.specs.Elaboration.{ElaboratedFile}
use Rattle.ls_types_programs.specs.ProgramCalls.{Callee, Maker, Method, Pending, setup_named, maker, is_plain, callable}
use Rattle.ls_types_programs.specs.ProgramCalls.{called_on, fits, with_argument, is_full, minus_number, negated}
use Rattle.ls_types_programs.specs.ThreadPrograms
use Rattle.ls_types_programs.specs.ThreadPrograms.{Stage, Parts, Reading, at, when, with_call, is_new_name, used}
use Rattle.ls_types_programs.specs.ThreadPrograms.{after_new, numbered, argument, with_finished, after, thread_named}
use Rattle.ls_types_programs.specs.Spelled as spelled
use Rattle.ls_types_programs.specs.Spelled.{Argument, Others, Arguments, Threads}
use Rattle.ls_types_programs.specs.Programs as programs
use Rattle.ls_types_programs.specs.Programs.{type_of, AreFor, IsPlain, IsNewName, IsNewThread, AreCallsOf, AreThreadsOf}
use Rattle.ls_types_programs.proofs.Pieces.{some_none, same_some, bytes_same, bytes_other, digits_most, negated_is}
use Rattle.ls_types_programs.proofs.Pieces.{append_nil, Grows, at_grown, at_end}
use Rattle.ls_types_programs.proofs.Rest.{with_values, method_pending, maker_pending}
use Rattle.ls_types_programs.proofs.RestInCalls.{calls_grow}

room : (calls : List ProgramCall) (c : ProgramCall) (cs : List ProgramCall) →
    length (calls ++ c ∷ cs) ≤ 256 →
    length calls < 256
room calls c cs h = omega (arith, h, length-append calls (c ∷ cs))

space : (before : List ThreadProgram) (t : ThreadProgram) (ts : List ThreadProgram) →
    length (before ++ t ∷ ts) ≤ suc most_threads →
    length before ≤ most_threads
space before t ts h = omega (arith, h, length-append before (t ∷ ts))

one_more : (before : List ThreadProgram) (t : ThreadProgram) → 1 ≤ length (before ++ t ∷ [])
one_more before t = omega (arith, length-append before (t ∷ []))

later_block : (before : List ThreadProgram) → 1 ≤ length before → nat_lt (length before) 1 ≡ false
later_block before h = by (nat_lt (length before) 1) refl
  where
    by : (b : Bool) → nat_lt (length before) 1 ≡ b → b ≡ false
    by false e = refl
    by true e = absurd (omega (arith, h, ltb-true (length before) 1 e))

-- ---- arguments

-- the parts of equal lists are equal
pub same_cons : {A : Type 0} (x y : A) (xs ys : List A) → x ∷ xs ≡ y ∷ ys → (x ≡ y) × (xs ≡ ys)
same_cons x y xs ys e = (cc, cc)

-- a value fits its type
pub type_fits : (t : ValueType) (v : Value) → type_of v ≡ Some t → fits (Some t) v ≡ true
type_fits t (values.Int z) e = subst (λ u. fits (Some u) (values.Int z) ≡ true) (same_some types.Int t e) refl
type_fits t (values.Boolean b) e = subst (λ u. fits (Some u) (values.Boolean b) ≡ true) (same_some types.Boolean t e)
    refl
type_fits t (values.Reference n) e = absurd (some_none t e)
type_fits t (values.Pair n m) e = absurd (some_none t e)

next_fits : (ts : List ValueType) (us : List Value) (v : Value) (vs : List Value) →
    AreFor ts (us ++ v ∷ vs) →
    fits (slice_get ts (length us)) v ≡ true
next_fits [] [] v vs h = absurd cc
next_fits (t ∷ ts) [] v vs h = type_fits t v (same_cons (type_of v) (Some t) (map type_of vs) (map Some ts) h).0
next_fits [] (u ∷ us) v vs h = absurd cc
next_fits (t ∷ ts) (u ∷ us) v vs h = next_fits ts us v vs (same_cons (type_of u) (Some t) (map type_of (us ++ v ∷ vs))
    (map Some ts) h).1

-- there are as many values as parameters
pub for_length : (ts : List ValueType) (vs : List Value) → AreFor ts vs → length vs ≡ length ts
for_length [] [] h = refl
for_length [] (v ∷ vs) h = absurd cc
for_length (t ∷ ts) [] h = absurd cc
for_length (t ∷ ts) (v ∷ vs) h = ap suc
    (for_length ts vs (same_cons (type_of v) (Some t) (map type_of vs) (map Some ts) h).1)

full : (ts : List ValueType) (vs : List Value) → AreFor ts vs → (length vs == length ts) ≡ true
full ts vs h = eq-eqb (length vs) (length ts) (for_length ts vs h)

module _ (o : ElaboratedFile) where
  -- the reading from a stage on
  abbrev pub From : Parts → Stage → List Lexeme → Option Reading
  From r stage ks = after o (Some (at r stage)) ks

  -- a value that fits is taken
  pub taken : (r : Parts) (p : Pending) (v : Value) (ks : List Lexeme) →
      fits (slice_get p.types (length p.values)) v ≡ true
      → after o (with_call r ThreadPrograms.AfterArgument (with_argument p v)) ks ≡ From r
      (ThreadPrograms.AfterArgument (with_values p (p.values ++ v ∷ []))) ks
  taken r p v ks e = ap
      (λ b. after o (with_call r ThreadPrograms.AfterArgument
      (if b then Some (with_values p (p.values ++ v ∷ [])) else None)) ks) e

  -- the tokens of an argument are read as that argument
  pub argument_steps : {v : Value} {ks rest : List Lexeme} → Argument v ks rest → (r : Parts) (p : Pending)
      → From r (ThreadPrograms.AtArgument p) ks ≡ after o (with_call r ThreadPrograms.AfterArgument (with_argument p v))
      rest
  argument_steps spelled.True r p = refl
  argument_steps spelled.False r p = refl
  argument_steps (spelled.Number {rest = rest} text small) r p =
      let v : Value = values.Int (pos (value_of 0 text)) in
      let is : digits_value 0 text ≡ value_of 0 text = digits_most text (less (value_of 0 text) small) in
      ap (λ n. after o (numbered r p (if nat_lt n 2147483648 then Some (values.Int (pos n)) else None)) rest) is
      ∙ ap (λ b. after o (numbered r p (if b then Some v else None)) rest) (lt-ltb (value_of 0 text) 2147483648 small)
    where
      less : (n : ℕ) → n < 2147483648 → n ≤ 2147483648
      less n h = omega (arith, h)
  argument_steps (spelled.Minus {rest = rest} text most) r p =
      let v : Value = values.Int (neg_ℤ (pos (value_of 0 text))) in
      let is : minus_number text ≡ v = ap (λ n. values.Int (negated n)) (digits_most text most) ∙
      ap (λ z. values.Int z) (negated_is (value_of 0 text)) in
      ap (λ u. after o (with_call r ThreadPrograms.AfterArgument (with_argument p u)) rest) is

  argument_read : {v : Value} {ks rest : List Lexeme} →
      Argument v ks rest →
      (r : Parts) (p : Pending) →
      fits (slice_get p.types (length p.values)) v ≡ true
      → From r (ThreadPrograms.AtArgument p) ks ≡ From r (ThreadPrograms.AfterArgument
      (with_values p (p.values ++ v ∷ []))) rest
  argument_read {v = v} {rest = rest} a r p e = argument_steps a r p ∙ taken r p v rest e

  -- the first argument is read as the others are
  pub first_same : {v : Value} {ks rest : List Lexeme} →
      Argument v ks rest →
      (r : Parts) (p : Pending) →
      From r (ThreadPrograms.AtFirst p) ks ≡ From r (ThreadPrograms.AtArgument p) ks
  first_same spelled.True r p = refl
  first_same spelled.False r p = refl
  first_same (spelled.Number text small) r p = refl
  first_same (spelled.Minus text most) r p = refl

  ended : (r : Parts) (p : Pending) (rest : List Lexeme) → AreFor p.types p.values
      → after o (when (is_full p) (at r (ThreadPrograms.AtSemicolon p))) rest ≡ From r (ThreadPrograms.AtSemicolon p)
      rest
  ended r p rest h = ap (λ b. after o (when b (at r (ThreadPrograms.AtSemicolon p))) rest) (full p.types p.values h)

  others_read : {vs : List Value} {ks rest : List Lexeme} →
      Others vs ks rest →
      (r : Parts) (p : Pending) →
      AreFor p.types (p.values ++ vs)
      → From r (ThreadPrograms.AfterArgument p) ks ≡ From r (ThreadPrograms.AtSemicolon
      (with_values p (p.values ++ vs))) rest
  others_read (spelled.NoOther {rest = rest}) r p h =
      ended r p rest (subst (AreFor p.types) (append_nil p.values) h) ∙
      ap (λ vs. From r (ThreadPrograms.AtSemicolon (with_values p vs)) rest) (sym (append_nil p.values))
  others_read (spelled.Other {v = v} {vs = vs} {rest = rest} a more) r p h =
      argument_read a r p (next_fits p.types p.values v vs h)
      ∙ others_read more r (with_values p (p.values ++ v ∷ []))
      (subst (AreFor p.types) (sym (append_assoc p.values (v ∷ []) vs)) h)
      ∙ ap (λ us. From r (ThreadPrograms.AtSemicolon (with_values p us)) rest) (append_assoc p.values (v ∷ []) vs)

  -- the tokens of arguments are read as those arguments
  pub arguments_read : {vs : List Value} {ks rest : List Lexeme} →
      Arguments vs ks rest →
      (r : Parts) (callee : Callee) (ts : List ValueType) →
      AreFor ts vs
      → From r (ThreadPrograms.AtFirst (record { callee = callee; types = ts; values = [] })) ks ≡ From r
      (ThreadPrograms.AtSemicolon (record { callee = callee; types = ts; values = vs })) rest
  arguments_read (spelled.NoArgument {rest = rest}) r callee ts h = ended r
      (record { callee = callee; types = ts; values = [] }) rest h
  arguments_read (spelled.First {v = v} {vs = vs} a more) r callee ts h =
      let p : Pending = record { callee = callee; types = ts; values = [] } in
      first_same a r p ∙ argument_read a r p (next_fits ts [] v vs h) ∙ others_read more r (with_values p (v ∷ [])) h

  -- ---- calls

  -- each setup name is found
  abbrev pub AreFound : List SetupName → Type 0
  AreFound names = (n : ℕ) (s : SetupName) → slice_get names n ≡ Some s → setup_named names s.name ≡ Some n

  semicolon_read : (r : Parts) (p : Pending) (rest : List Lexeme) →
      length r.calls < 256 →
      From r (ThreadPrograms.AtSemicolon p) (Marked signs.Semicolon ∷ rest) ≡ From (with_finished r p)
      ThreadPrograms.AtCall rest
  semicolon_read r p rest room = ap (λ b. after o (when b (at (with_finished r p) ThreadPrograms.AtCall)) rest)
      (lt-ltb (length r.calls) 256 room)

  called_read : {vs : List Value} {ks rest : List Lexeme} (r : Parts) (n : ℕ) (s : SetupName) (name : Text)
      (m : MethodSign) →
      setup_named r.names s.name ≡ Some n →
      slice_get r.names n ≡ Some s
      → method_named (methods_in (slice_get o.signs s.class)) name ≡ Some m → is_plain m.result ≡ true →
      AreFor m.parameters vs → length r.calls < 256
      → Arguments vs ks (Marked signs.Semicolon ∷ rest)
      → From r ThreadPrograms.AtCall (Named s.name ∷ Marked signs.Dot ∷ Named name ∷ Marked signs.OpenParen ∷ ks)
      ≡ From (with_finished r (with_values (method_pending n name m) vs)) ThreadPrograms.AtCall rest
  called_read {vs = vs} {ks = ks} {rest = rest} r n s name m found there is plain fit room a =
      ap (λ x. after o (used r x) (Named name ∷ Marked signs.OpenParen ∷ ks)) found
      ∙ ap (λ x. after o (with_call r ThreadPrograms.AtArguments (called_on o n x name)) (Marked signs.OpenParen ∷ ks))
      there
      ∙ ap (λ x. after o (with_call r ThreadPrograms.AtArguments (callable n name x)) (Marked signs.OpenParen ∷ ks)) is
      ∙ ap (λ b. after o (with_call r ThreadPrograms.AtArguments (if b then Some (method_pending n name m) else None))
      (Marked signs.OpenParen ∷ ks)) plain
      ∙ arguments_read a r (Method n m.number name m.result) m.parameters fit
      ∙ semicolon_read r (with_values (method_pending n name m) vs) rest room

  made_read : {vs : List Value} {ks rest : List Lexeme} (r : Parts) (name class_name : Text) (c : ℕ) →
      is_new_name r name ≡ true →
      number_of o.names class_name ≡ Some c
      → AreFor (parameters_in (slice_get o.signs c)) vs → length r.calls < 256 →
      Arguments vs ks (Marked signs.Semicolon ∷ rest)
      → From r ThreadPrograms.AtCall (Named name ∷ Marked signs.Assign ∷ Reserved words.New ∷ Named class_name ∷
      Marked signs.OpenParen ∷ ks)
      ≡ From (with_finished r (with_values (maker_pending o name c class_name) vs)) ThreadPrograms.AtCall rest
  made_read {vs = vs} {ks = ks} {rest = rest} r name class_name c new is fit room a =
      ap (λ b. after o (when b (at r (ThreadPrograms.AfterAssign name)))
      (Reserved words.New ∷ Named class_name ∷ Marked signs.OpenParen ∷ ks)) new
      ∙ ap (λ x. after o (with_call r ThreadPrograms.AtArguments (maker o name class_name x))
      (Marked signs.OpenParen ∷ ks)) is
      ∙ arguments_read a r (Maker name c class_name) (parameters_in (slice_get o.signs c)) fit
      ∙ semicolon_read r (with_values (maker_pending o name c class_name) vs) rest room

  -- ---- setup names

  named_front : (names more : List SetupName) (name : Text) (n : ℕ) →
      setup_named names name ≡ Some n →
      setup_named (names ++ more) name ≡ Some n
  named_front [] more name n e = absurd (some_none n e)
  named_front (x ∷ names) more name n e = by (named_front names more name) (bytes_eq x.name name)
      (setup_named names name) refl e
    where
      by : ((j : ℕ) → setup_named names name ≡ Some j → setup_named (names ++ more) name ≡ Some j) →
          (b : Bool) (i : Option ℕ) →
          setup_named names name ≡ i
          → (if b then Some 0 else option_map (λ i. i + 1) i) ≡ Some n →
          (if b then Some 0 else option_map (λ i. i + 1) (setup_named (names ++ more) name)) ≡ Some n
      by rec true i f e = e
      by rec false None f e = absurd (some_none n e)
      by rec false (Some j) f e = ap (option_map (λ i. i + 1)) (rec j f) ∙ e

  named_end : (names : List SetupName) (s : SetupName) →
      IsNewName names s.name →
      setup_named (names ++ s ∷ []) s.name ≡ Some (length names)
  named_end [] s h = ap (λ b. if b then Some 0 else None) (bytes_same s.name s.name refl)
  named_end (x ∷ names) s h =
      ap (λ b. if b then Some 0 else option_map (λ i. i + 1) (setup_named (names ++ s ∷ []) s.name))
      (bytes_other x.name s.name h.0)
      ∙ ap (option_map (λ i. i + 1)) (named_end names s h.1)
      ∙ ap (λ n. Some n) (one_more (length names))
    where
      one_more : (n : ℕ) → n + 1 ≡ suc n
      one_more n = omega arith

  -- a new name isn't found
  pub new_named : (names : List SetupName) (name : Text) →
      IsNewName names name →
      is_some (setup_named names name) ≡ false
  new_named [] name h = refl
  new_named (x ∷ names) name h =
      ap (λ b. is_some (if b then Some 0 else option_map (λ i. i + 1) (setup_named names name)))
      (bytes_other x.name name h.0)
      ∙ by (setup_named names name) (new_named names name h.1)
    where
      by : (i : Option ℕ) → is_some i ≡ false → is_some (option_map (λ i. i + 1) i) ≡ false
      by None e = refl
      by (Some j) e = e

  -- what is at a number of a list with one more item
  last_or : {A : Type 0} (xs : List A) (x y : A) (n : ℕ) →
      slice_get (xs ++ x ∷ []) n ≡ Some y →
      ((n ≡ length xs) × (x ≡ y)) ⊎ (slice_get xs n ≡ Some y)
  last_or [] x y zero e = inl (refl, same_some x y e)
  last_or [] x y (suc n) e = absurd (some_none y e)
  last_or (z ∷ xs) x y zero e = inr e
  last_or (z ∷ xs) x y (suc n) e = by (last_or xs x y n e)
    where
      by : ((n ≡ length xs) × (x ≡ y)) ⊎ (slice_get xs n ≡ Some y) →
          ((suc n ≡ suc (length xs)) × (x ≡ y)) ⊎ (slice_get xs n ≡ Some y)
      by (inl h) = inl (ap suc h.0, h.1)
      by (inr h) = inr h

  -- with one more new name, each name is found at its place
  pub found_push : (names : List SetupName) (s : SetupName) →
      IsNewName names s.name →
      AreFound names →
      AreFound (names ++ s ∷ [])
  found_push names s new found n t e = by (last_or names s t n e)
    where
      by : ((n ≡ length names) × (s ≡ t)) ⊎ (slice_get names n ≡ Some t) → setup_named (names ++ s ∷ []) t.name ≡ Some n
      by (inl h) = subst (λ (u : SetupName). setup_named (names ++ s ∷ []) u.name ≡ Some n) h.1
          (named_end names s new ∙ ap (λ i. Some i) (sym h.0))
      by (inr h) = named_front names (s ∷ []) t.name n (found n t h)

  -- a plain result is tested to be plain
  pub result_plain : (r : Option ValueType) → IsPlain r → is_plain r ≡ true
  result_plain None h = refl
  result_plain (Some types.Int) h = refl
  result_plain (Some types.Boolean) h = refl
  result_plain (Some types.BooleanArray) h = absurd h
  result_plain (Some (types.Class c)) h = absurd h
  result_plain (Some types.Lock) h = absurd h
  result_plain (Some (types.Markable c)) h = absurd h

  -- ---- blocks

  abbrev parts : List SetupName → List ThreadProgram → Text → List ProgramCall → Parts
  parts names threads name calls = record { names = names; threads = threads; name = name; calls = calls }

  -- the tokens of calls are read as those calls
  pub calls_read : {b : Bool} {names all : List SetupName} {cs : List ProgramCall} {ks rest : List Lexeme} →
      AreCallsOf o b names cs all →
      spelled.Calls b all cs ks rest
      → (threads : List ThreadProgram) (name : Text) (calls : List ProgramCall) → nat_lt (length threads) 1 ≡ b →
      AreFound names → length (calls ++ cs) ≤ 256
      → (From (parts names threads name calls) ThreadPrograms.AtCall ks ≡ From
      (parts all (threads ++ record { name = name; calls = calls ++ cs } ∷ []) [] []) ThreadPrograms.AtThread rest)
      × AreFound all
  calls_read (programs.End {names = names}) (spelled.NoCall {rest = rest}) threads name calls b found few = (
    ap (λ cs. From (parts names (threads ++ record { name = name; calls = cs } ∷ []) [] []) ThreadPrograms.AtThread
        rest) (sym (append_nil calls)),
    found,
  )
  calls_read {b = b} {all = all} (programs.Makes {names = names} {cs = cs} s class_name vs setup new there fit are)
      (spelled.More {rest = rest} (spelled.New {ks = ks} t allowed at a) more) threads name calls e found few =
      let r : Parts = parts names threads name calls in
      let g : Grows (names ++ s ∷ []) all = calls_grow o r b (names ++ s ∷ []) all cs are in
      let same : s ≡ t = same_some s t (sym (at_grown (names ++ s ∷ []) all (length names) s g (at_end names s)) ∙ at)
      in
      let c : ProgramCall = Making (length names) s.class class_name vs in
      let joined : (calls ++ c ∷ []) ++ cs ≡ calls ++ c ∷ cs = append_assoc calls (c ∷ []) cs in
      let ok : is_new_name r s.name ≡ true = ap (λ x. x && not (is_some (setup_named names s.name))) (e ∙ setup) ∙
      ap (λ x. not x) (new_named names s.name new) in
      let next = calls_read are more threads name (calls ++ c ∷ []) e (found_push names s new found)
      (subst (λ l. length l ≤ 256) (sym joined) few) in (
        ap (λ (u : SetupName). From r ThreadPrograms.AtCall (Named u.name ∷ Marked signs.Assign ∷ Reserved words.New ∷
            Named class_name ∷ Marked signs.OpenParen ∷ ks)) (sym same)
            ∙ made_read r s.name class_name s.class ok there fit (room calls c cs few) a
            ∙ next.0
            ∙ ap (λ l. From (parts all (threads ++ record { name = name; calls = l } ∷ []) [] [])
            ThreadPrograms.AtThread rest) joined,
        next.1,
      )
  calls_read {b = b} {all = all} (programs.Calls {names = names} {cs = cs} n s method m vs stands there plain fit are)
      (spelled.More {rest = rest} (spelled.On {ks = ks} t at a) more) threads name calls e found few =
      let r : Parts = parts names threads name calls in
      let g : Grows names all = calls_grow o r b names all cs are in
      let same : s ≡ t = same_some s t (sym (at_grown names all n s g stands) ∙ at) in
      let c : ProgramCall = Calling n m.number method m.result vs in
      let joined : (calls ++ c ∷ []) ++ cs ≡ calls ++ c ∷ cs = append_assoc calls (c ∷ []) cs in
      let next = calls_read are more threads name (calls ++ c ∷ []) e found
      (subst (λ l. length l ≤ 256) (sym joined) few) in (
        ap (λ (u : SetupName). From r ThreadPrograms.AtCall (Named u.name ∷ Marked signs.Dot ∷ Named method ∷
            Marked signs.OpenParen ∷ ks)) (sym same)
            ∙ called_read r n s method m (found n s stands) stands there (result_plain m.result plain) fit
            (room calls c cs few) a
            ∙ next.0
            ∙ ap (λ l. From (parts all (threads ++ record { name = name; calls = l } ∷ []) [] [])
            ThreadPrograms.AtThread rest) joined,
        next.1,
      )

  new_thread : (ts : List ThreadProgram) (name : Text) → IsNewThread ts name → thread_named ts name ≡ false
  new_thread [] name h = refl
  new_thread (t ∷ ts) name h = ap (λ b. b || thread_named ts name) (bytes_other t.name name h.0) ∙
      new_thread ts name h.1

  -- the tokens of threads are read as those threads
  pub threads_read : {names : List SetupName} {before ts : List ThreadProgram} {ks : List Lexeme} →
      AreThreadsOf o names before ts →
      Threads names ts ks →
      AreFound names
      → 1 ≤ length before → length (before ++ ts) ≤ suc most_threads
      → From (parts names before [] []) ThreadPrograms.AtThread ks ≡ Some
      (at (parts names (before ++ ts) [] []) ThreadPrograms.AtThread)
  threads_read {names = names} {before = before} programs.End spelled.NoThread found some few = ap
      (λ l. Some (at (parts names l [] []) ThreadPrograms.AtThread)) (sym (append_nil before))
  threads_read {names = names} {before = before} (programs.Thread {ts = ts} t no_all new calls are more)
      (spelled.Thread {ks = ks} cs later) found some few =
      let r : Parts = parts names before [] [] in
      let block : Parts = parts names before t.name [] in
      let joined : (before ++ t ∷ []) ++ ts ≡ before ++ t ∷ ts = append_assoc before (t ∷ []) ts in
      let read = calls_read are cs before t.name [] (later_block before some) found calls in
      ap (λ b. after o (when b (at r ThreadPrograms.AtThreadName)) (Named t.name ∷ Marked signs.OpenBrace ∷ ks))
      (le-leb (length before) most_threads (space before t ts few))
      ∙ ap (λ b. after o (when (not b && not (thread_named before t.name)) (at block ThreadPrograms.AtBlock))
      (Marked signs.OpenBrace ∷ ks)) (bytes_other t.name (codes "all") no_all)
      ∙ ap (λ b. after o (when (not b) (at block ThreadPrograms.AtBlock)) (Marked signs.OpenBrace ∷ ks))
      (new_thread before t.name new)
      ∙ read.0
      ∙ threads_read more later found (one_more before t) (subst (λ l. length l ≤ suc most_threads) (sym joined) few)
      ∙ ap (λ l. Some (at (parts names l [] []) ThreadPrograms.AtThread)) joined
