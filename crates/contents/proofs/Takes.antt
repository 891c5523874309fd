-- a record that is taken in
use Rattle.std.proofs.Common.{◌≡◌, ℕ, ◌+◌, ◌<◌, ◌≤◌, Bool, true, false, cond, ltb, List, [], ◌∷◌, ◌++◌, length, get_or, take, drop, Some, None, Err, Option, sym, refl, ap, ◌∙◌, arith, rules}
use Rattle.std.proofs.lemmas.List.{get_or-take, same_lists, places}
use Rattle.std.proofs.lemmas.Bool.Decides.{nat_tests}
use Rattle.std.specs.Option.{ok_or}
use Rattle.answers.specs.declared.Refusal.{Refusal}
use Rattle.answers.specs.declared.Refusal.TheVariants.{FieldValue, Duplicate}
use Rattle.contents.specs.declared.records.Entry.{Entry}
use Rattle.contents.specs.declared.records.KeySet.{KeySet}
use Rattle.contents.specs.Records.{name_of, bears, has_version}
use Rattle.contents.specs.Held.{Held, any}
use Rattle.contents.specs.Image.{key_set_in, entry_in, with_key_set, with_entry, fault, next, read_fields, read_key_set, read_entry}
use Rattle.contents.proofs.ReadsBack.{fields_grow}

-- a value that is not there, and what is said for it
pub none_refused : {X : Type 0} (o : Option X) (e f : Refusal) → Err f ≡ ok_or o e → (None ≡ o) × (f ≡ e)
none_refused None e f h = (refl, grind arith)
none_refused (Some x) e f h = absurd (grind arith)

-- a body that is refused for a value, and one of a name or a version that an earlier record has
value_refused : {X : Type 0} (size : ℕ) (body : List ℕ) (o : Option X) (twice : X → Bool) (grown : X → Held) → size ≤ length body → None ≡ o → read_fields size body (λ _. o) twice grown ≡ fault FieldValue
value_refused size body None twice grown long is = grind (arith, nat_tests)
value_refused size body (Some x) twice grown long is = absurd (grind arith)

value_twice : {X : Type 0} (size : ℕ) (body : List ℕ) (o : Option X) (twice : X → Bool) (grown : X → Held) (x : X) → size ≤ length body → Some x ≡ o → true ≡ twice x → read_fields size body (λ _. o) twice grown ≡ fault Duplicate
value_twice size body None twice grown x long is again = absurd (grind arith)
value_twice size body (Some y) twice grown x long is again = grind (arith, nat_tests)

-- what a body says, its first bytes say
window : (n m k : ℕ) (xs : List ℕ) → n + m ≤ k → take m (drop n (take k xs)) ≡ take m (drop n xs)
window n m k xs le = same_lists _ _ (search (rules, places)) (λ i d h. grind (arith, places))

key_set_front : (b : List ℕ) → key_set_in (take 49 b) ≡ key_set_in b
key_set_front b =
    let v : get_or (take 49 b) 0 0 ≡ get_or b 0 0 = get_or-take 49 b 0 0 (omega arith) in
    rw (v, window 1 16 49 b (omega arith), window 17 16 49 b (omega arith), window 33 16 49 b (omega arith)) refl

entry_front : (b : List ℕ) → entry_in (take 20 b) ≡ entry_in b
entry_front b =
    let k : get_or (take 20 b) 0 0 ≡ get_or b 0 0 = get_or-take 20 b 0 0 (omega arith) in
    let n : get_or (take 20 b) 1 0 ≡ get_or b 1 0 = get_or-take 20 b 1 0 (omega arith) in
    let s : get_or (take 20 b) 18 0 ≡ get_or b 18 0 = get_or-take 20 b 18 0 (omega arith) in
    let p : get_or (take 20 b) 19 0 ≡ get_or b 19 0 = get_or-take 20 b 19 0 (omega arith) in
    rw (k, n, s, p, window 2 16 20 b (omega arith)) refl

pub key_set_refused : (h : Held) (body front : List ℕ) → 49 ≤ length body → front ≡ take 49 body → None ≡ key_set_in front → read_key_set h body ≡ fault FieldValue
key_set_refused h body front long cut is =
    value_refused 49 body (key_set_in body) _ _ long (is ∙ ap key_set_in cut ∙ key_set_front body)

pub key_set_twice : (h : Held) (body front : List ℕ) (k : KeySet) → 49 ≤ length body → front ≡ take 49 body → Some k ≡ key_set_in front → true ≡ any (has_version k.version) h.sets → read_key_set h body ≡ fault Duplicate
key_set_twice h body front k long cut is again =
    value_twice 49 body (key_set_in body) _ _ k long (is ∙ ap key_set_in cut ∙ key_set_front body) again

pub key_set_taken : (h : Held) (body front : List ℕ) (k : KeySet) → 49 ≤ length body → front ≡ take 49 body → Some k ≡ key_set_in front → false ≡ any (has_version k.version) h.sets → read_key_set h body ≡ next (with_key_set h k) (drop 49 body)
key_set_taken h body front k long cut is once =
    fields_grow 49 body key_set_in (λ s. any (has_version s.version) h.sets) (with_key_set h) k (drop 49 body) long (sym (is ∙ ap key_set_in cut ∙ key_set_front body)) (sym once) refl

pub entry_refused : (h : Held) (body front : List ℕ) → 20 ≤ length body → front ≡ take 20 body → None ≡ entry_in front → read_entry h body ≡ fault FieldValue
entry_refused h body front long cut is =
    value_refused 20 body (entry_in body) _ _ long (is ∙ ap entry_in cut ∙ entry_front body)

pub entry_twice : (h : Held) (body front name : List ℕ) (e : Entry) → 20 ≤ length body → front ≡ take 20 body → Some e ≡ entry_in front → name ≡ name_of e → true ≡ any (bears name) h.entries → read_entry h body ≡ fault Duplicate
entry_twice h body front name e long cut is named again =
    value_twice 20 body (entry_in body) _ _ e long (is ∙ ap entry_in cut ∙ entry_front body) (again ∙ ap (λ n. any (bears n) h.entries) named)

pub entry_taken : (h : Held) (body front name : List ℕ) (e : Entry) → 20 ≤ length body → front ≡ take 20 body → Some e ≡ entry_in front → name ≡ name_of e → false ≡ any (bears name) h.entries → read_entry h body ≡ next (with_entry h e) (drop 20 body)
entry_taken h body front name e long cut is named once =
    fields_grow 20 body entry_in (λ s. any (bears (name_of s)) h.entries) (with_entry h) e (drop 20 body) long (sym (is ∙ ap entry_in cut ∙ entry_front body)) (sym (once ∙ ap (λ n. any (bears n) h.entries) named)) refl

-- a push where there is room
pub pushed_on : {X : Type 0} (xs ys : List X) (y : X) (r : Bool) (n : ℕ) → r ≡ ltb (length xs) n → ys ≡ cond r (xs ++ y ∷ []) xs → length xs < n → ys ≡ xs ++ y ∷ []
pushed_on xs ys y r n taken is lt = grind (arith, nat_tests)
