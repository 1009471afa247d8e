-- Repetition, and the loops that do it.
use Rattle.std.proofs.Common.{◌≡◌, ℕ, zero, suc, ◌<◌, ◌≤◌, Bool, true, false, length, List, [], ◌∷◌, Option, Some}
use Rattle.std.proofs.Common.{None, refl, sym, ap, subst, ◌∙◌, inl, inr, arith}
use Rattle.std.proofs.lemmas.Bool.{cases_Bool}
use Rattle.ls_lexer.specs.declared.fault.TextFault.{TextFault}
use Rattle.ls_lexer.specs.declared.fault.TextFault.TheVariants as faults
use Rattle.ls_lexer.specs.Lexemes.{Lexeme}
use Rattle.ls_parser_tokens.specs.Answers.{RefusesTokens, Fails}
use Rattle.ls_lexer.specs.declared.sign.Sign.TheVariants as signs
use Rattle.ls_parser_tokens.specs.Reading.{◌>>=◌, Reader, repeat, one_more, after_sign, starts, not_yet, behind_comma}
use Rattle.ls_parser_tokens.specs.Reading.{group_at}

-- what a refusal says may be weakened
pub means_map : {P Q : Type 0} (e : TextFault) → (P → Q) → RefusesTokens e P → RefusesTokens e Q
means_map faults.Memory f h = tt
means_map faults.TooLong f h = absurd h
means_map (faults.BadByte at) f h = absurd h
means_map (faults.OpenComment at) f h = absurd h
means_map (faults.BadNumber at) f h = f h
means_map (faults.Syntax at) f h = f h
means_map (faults.TooDeep at) f h = f h

none_first : {A B : Type 0} (o : Option A) (f : A → Option B) → o ≡ None → (o >>= f) ≡ None
none_first o f h = rw h refl

-- if a step fails, what begins with it fails
pub fails_first : {A B : Type 0} (e : TextFault) (o : Option A) (f : A → Option B) → Fails e o → Fails e (o >>= f)
fails_first e o f h = means_map e (none_first o f) h

-- `whole` is what is read after `left`
pub record InRepeat {A : Type 0} (goes : List Lexeme → Bool) (step : A → Reader A) (need : ℕ) (left : A)
    (ks : List Lexeme) (whole : Option (A × List Lexeme)) : Type 0 where
  pub turns : ℕ
  pub bound : need ≤ turns
  pub same : repeat turns goes step left ks ≡ whole

module _ {A : Type 0} (goes : List Lexeme → Bool) (step : A → Reader A) where
  stops : (turns : ℕ) (left : A) (ks : List Lexeme) → goes ks ≡ false → repeat turns goes step left ks ≡ Some (left, ks)
  unfolding repeat
  stops zero left ks h = rw h refl
  stops (suc turns) left ks h = rw h refl

  -- one turn of the loop
  pub turn : (turns : ℕ) (left : A) (ks : List Lexeme) →
      goes ks ≡ true →
      repeat (suc turns) goes step left ks ≡ (step left ks >>= λ x. repeat turns goes step x.0 x.1)
  unfolding repeat
  turn turns left ks h = rw h refl

  spent : (left : A) (ks : List Lexeme) → goes ks ≡ true → repeat zero goes step left ks ≡ None
  unfolding repeat
  spent left ks h = rw h refl

  goes_on : (turns need need' : ℕ) (left left' : A) (ks rest : List Lexeme) (whole : Option (A × List Lexeme)) →
      need ≤ turns →
      repeat turns goes step left ks ≡ whole
      → goes ks ≡ true → step left ks ≡ Some (left', rest) → need' < need → InRepeat goes step need' left' rest whole
  goes_on zero need need' left left' ks rest whole bound same h e less = absurd (omega arith)
  goes_on (suc turns) need need' left left' ks rest whole bound same h e less =
      let one : repeat (suc turns) goes step left ks ≡ repeat turns goes step left' rest =
      turn turns left ks h ∙ rw e refl in
      record { turns = turns; bound = omega arith; same = sym one ∙ same }

  fails_go : (e : TextFault) (turns : ℕ) (left : A) (ks : List Lexeme) →
      goes ks ≡ true →
      Fails e (step left ks) →
      Fails e (repeat turns goes step left ks)
  fails_go e zero left ks h f = means_map e (λ none. spent left ks h) f
  fails_go e (suc turns) left ks h f =
      subst (Fails e) (sym (turn turns left ks h))
      (fails_first e (step left ks) (λ x. repeat turns goes step x.0 x.1) f)

-- ---- the loop

pub repeat_begins :
    {A : Type 0} (goes : List Lexeme → Bool) (step : A → Reader A) (need : ℕ) (left : A) (ks : List Lexeme) →
    InRepeat goes step need left ks (repeat need goes step left ks)
repeat_begins goes step need left ks = record { turns = need; bound = omega arith; same = refl }

-- the loop ends
pub repeat_ends : {A : Type 0} {goes : List Lexeme → Bool} {step : A → Reader A} {need : ℕ} {left : A}
    {ks : List Lexeme} {whole : Option (A × List Lexeme)}
    → InRepeat goes step need left ks whole → goes ks ≡ false → whole ≡ Some (left, ks)
repeat_ends {A} {goes} {step} {need} {left} {ks} r h = sym r.same ∙ stops goes step r.turns left ks h

-- one turn more
pub repeat_goes_on : {A : Type 0} {goes : List Lexeme → Bool} {step : A → Reader A} {need : ℕ} {left : A}
    {ks : List Lexeme} {whole : Option (A × List Lexeme)} {left' : A} {rest : List Lexeme} (need' : ℕ)
    → InRepeat goes step need left ks whole → goes ks ≡ true → step left ks ≡ Some (left', rest) → need' < need →
    InRepeat goes step need' left' rest whole
repeat_goes_on {A} {goes} {step} {need} {left} {ks} {whole} {left'} {rest} need' r h e less =
    goes_on goes step r.turns need need' left left' ks rest whole r.bound r.same h e less

-- if a turn fails, so does the loop
pub repeat_fails : {A : Type 0} {goes : List Lexeme → Bool} {step : A → Reader A} {need : ℕ} {left : A}
    {ks : List Lexeme} {whole : Option (A × List Lexeme)} (e : TextFault)
    → InRepeat goes step need left ks whole → goes ks ≡ true → Fails e (step left ks) → Fails e whole
repeat_fails {A} {goes} {step} {need} {left} {ks} {whole} e r h f =
    subst (Fails e) r.same (fails_go goes step e r.turns left ks h f)

-- a loop over a list, which takes a token at least each time
pub list_begins : {A : Type 0} (front : List A) (goes : List Lexeme → Bool) (item : Reader A) (ks : List Lexeme) →
    InRepeat goes (one_more item) (length ks) front ks (repeat (length ks) goes (one_more item) front ks)
list_begins front goes item ks = repeat_begins goes (one_more item) (length ks) front ks

-- one thing more of a list
pub list_goes_on : {A : Type 0} {goes : List Lexeme → Bool} (item : Reader A) (front : List A) (ks : List Lexeme)
    {whole : Option (List A × List Lexeme)} (front' : List A) (rest : List Lexeme)
    → InRepeat goes (one_more item) (length ks) front ks whole → goes ks ≡ true →
    one_more item front ks ≡ Some (front', rest) → length rest < length ks →
    InRepeat goes (one_more item) (length rest) front' rest whole
list_goes_on {A} {goes} item front ks {whole} front' rest r h e less = repeat_goes_on (length rest) r h e less

-- ---- a loop over a group

-- `whole` is what is read after those in `front`, up to the closing parenthesis
pub record InGroup {A : Type 0} (item : Reader A) (front : List A) (ks : List Lexeme)
    (whole : Option (List A × List Lexeme)) : Type 0 where
  pub more : Option (List A × List Lexeme)
  pub inside : InRepeat (not_yet signs.CloseParen) (one_more (behind_comma item)) (length ks) front ks more
  pub same : whole ≡ (more >>= λ all. after_sign signs.CloseParen all.1 >>= λ rest. Some (all.0, rest))

-- an empty group
pub group_none : {A : Type 0} (item : Reader A) (ks : List Lexeme) {rest : List Lexeme} →
    after_sign signs.CloseParen ks ≡ Some rest →
    group_at item ks ≡ Some ([], rest)
group_none item ks o = rw o refl

-- the first thing of a group
pub group_begins : {A : Type 0} (item : Reader A) (ks rest : List Lexeme) (first : A) →
    after_sign signs.CloseParen ks ≡ None →
    item ks ≡ Some (first, rest) →
    InGroup item (first ∷ []) rest (group_at item ks)
group_begins item ks rest first o e = record {
  more = repeat (length rest) (not_yet signs.CloseParen) (one_more (behind_comma item)) (first ∷ []) rest;
  inside = list_begins (first ∷ []) (not_yet signs.CloseParen) (behind_comma item) rest;
  same = rw (o, e) refl;
}

-- the closing parenthesis of a group
pub group_ends :
    {A : Type 0} {item : Reader A} {front : List A} {ks rest : List Lexeme} {whole : Option (List A × List Lexeme)} →
    InGroup item front ks whole →
    after_sign signs.CloseParen ks ≡ Some rest →
    whole ≡ Some (front, rest)
group_ends {A} {item} {front} {ks} {rest} {whole} g o =
    let stop : not_yet signs.CloseParen ks ≡ false = rw o refl in
    let read : g.more ≡ Some (front, ks) = repeat_ends g.inside stop in
    g.same ∙ rw (read, o) refl

-- one thing more of a group, after a comma
pub group_goes_on : {A : Type 0} {item : Reader A} {front : List A} {ks : List Lexeme}
    {whole : Option (List A × List Lexeme)} {front' : List A} {rest : List Lexeme}
    → InGroup item front ks whole → starts signs.CloseParen ks ≡ false → one_more (behind_comma item) front ks ≡
    Some (front', rest) → length rest < length ks → InGroup item front' rest whole
group_goes_on {A} {item} {front} {ks} {whole} {front'} {rest} g h e less =
    let go : not_yet signs.CloseParen ks ≡ true = rw h refl in
    record {
      more = g.more;
      inside = list_goes_on (behind_comma item) front ks front' rest g.inside go e less;
      same =
          g.same;
    }

-- if a thing fails, so does the group
pub group_fails : {A : Type 0} {item : Reader A} {front : List A} {ks : List Lexeme}
    {whole : Option (List A × List Lexeme)} (e : TextFault)
    → InGroup item front ks whole → starts signs.CloseParen ks ≡ false →
    Fails e (one_more (behind_comma item) front ks) → Fails e whole
group_fails {A} {item} {front} {ks} {whole} e g h f =
    let go : not_yet signs.CloseParen ks ≡ true = rw h refl in
    subst (Fails e) (sym g.same)
    (fails_first e g.more (λ all. after_sign signs.CloseParen all.1 >>= λ rest. Some (all.0, rest))
    (repeat_fails e g.inside go f))

-- ---- laws

-- if a step and the next give a value, the first gives one
pub bind_some : {A B : Type 0} (o : Option A) (f : A → Option B) (y : B) →
    (o >>= f) ≡ Some y →
    (x : A) × (o ≡ Some x) × (f x ≡ Some y)
bind_some None f y e = absurd cc
bind_some (Some x) f y e = (x, refl, e)

-- equal options have equal values
pub some_is : {A : Type 0} (x y : A) → ◌≡◌ {A = Option A} (Some x) (Some y) → x ≡ y
some_is x y e = cc

-- if each step keeps something, all of them do
pub repeat_sound : {A : Type 0} (goes : List Lexeme → Bool) (step : A → Reader A) (Keeps : A → List Lexeme → Type 0)
    → ((left : A) (ks : List Lexeme) (x : A × List Lexeme) → Keeps left ks → goes ks ≡ true → step left ks ≡ Some x →
    Keeps x.0 x.1)
    → (turns : ℕ) (left : A) (ks : List Lexeme) (x : A × List Lexeme) → Keeps left ks → repeat turns goes step left ks ≡
    Some x → Keeps x.0 x.1 × (goes x.1 ≡ false)
repeat_sound {A = A} goes step Keeps keeps zero left ks x before e =
    elim (cases_Bool (goes ks)) [
      | inl yes' ↦ absurd (let none = spent goes step left ks yes' in cc (none, e))
      | inr no' ↦
          let is : (left, ks) ≡ x = some_is (left, ks) x (sym (stops goes step zero left ks no') ∙ e) in (
            subst (λ (y : A × List Lexeme). Keeps y.0 y.1) is before,
            ap (λ (y : A × List Lexeme). goes y.1) (sym is) ∙
                no',
          )
    ]
repeat_sound {A = A} goes step Keeps keeps (suc turns) left ks x before e =
    elim (cases_Bool (goes ks)) [
      | inl yes' ↦
          let b = bind_some (step left ks) (λ x. repeat turns goes step x.0 x.1) x
          (sym (turn goes step turns left ks yes') ∙ e) in
          repeat_sound goes step Keeps keeps turns b.0.0 b.0.1 x (keeps left ks b.0 before yes' b.1) b.2
      | inr no' ↦
          let is : (left, ks) ≡ x = some_is (left, ks) x (sym (stops goes step (suc turns) left ks no') ∙ e) in (
            subst (λ (y : A × List Lexeme). Keeps y.0 y.1) is before,
            ap (λ (y : A × List Lexeme). goes y.1) (sym is) ∙
                no',
          )
    ]

-- a loop that doesn't go on
pub repeat_stops :
    {A : Type 0} (goes : List Lexeme → Bool) (step : A → Reader A) (turns : ℕ) (left : A) (ks : List Lexeme) →
    goes ks ≡ false →
    repeat turns goes step left ks ≡ Some (left, ks)
repeat_stops goes step turns left ks h = stops goes step turns left ks h
