-- What is known of a command that was read inside a channel.
use Rattle.std.proofs.Common.{◌≡◌, ℕ, Bool, true, false, cond, List, [], ◌∷◌, ◌++◌, Some, None, Option, sym, refl, ap, ◌∙◌, arith, rules}
use Rattle.std.specs.Option.{option_map}
use Rattle.std.specs.Str.{bytes_eq}
use Rattle.std.proofs.lemmas.Slice.Eq.{bytes_eq-Decides}
use Rattle.std.proofs.lemmas.List.Sums.{fold_push}
use Rattle.apdu.specs.Apdu.{Apdu}
use Rattle.cipher.specs.Blocks.{Algorithm, zeros}
use Rattle.scp01.specs.declared.Level.{Level}
use Rattle.scp01.specs.declared.Level.TheVariants.{Plain, Mac, MacEncrypted}
use Rattle.scp01.specs.declared.Session.{Session}
use Rattle.scp01.specs.Inside.{unwrapped, unwrapped_from, text_in, body_in, chain_after, right_code, code_for, code_in, and_then, takes_class}
use Rattle.scp01.specs.Session.{command_code}
use Rattle.runs.specs.Plain.{Message, message, code_from, code_over, found_right}

pub same_of : (xs ys : List ℕ) → bytes_eq xs ys ≡ true → xs ≡ ys
same_of xs ys e = let d = bytes_eq-Decides xs ys in search rules

never_some : {X : Type 0} {x : X} {P : Type 0} → None ≡ Some x → P
never_some e = let z : ◌≡◌ {A = ℕ} 0 1 = cc in absurd (omega arith)

pub record Via {X Y : Type 0} (o : Option X) (f : X → Option Y) (y : Y) : Type 0 where
  pub first : X
  pub is : o ≡ Some first
  pub then : f first ≡ Some y

pub via_and_then : {X Y : Type 0} (o : Option X) (f : X → Option Y) (y : Y) → and_then o f ≡ Some y → Via o f y
via_and_then None f y e = never_some e
via_and_then (Some x) f y e = record { first = x; is = refl; then = e }

pub if_some : {X : Type 0} (b : Bool) (o : Option X) (x : X) → cond b o None ≡ Some x → (b ≡ true) × (o ≡ Some x)
if_some true o x e = (refl, e)
if_some false o x e = never_some e

some_same : {X : Type 0} (y x : X) → Some y ≡ Some x → y ≡ x
some_same y x e = cc

unless_some : {X : Type 0} (b : Bool) (y x : X) → cond b None (Some y) ≡ Some x → y ≡ x
unless_some true y x e = never_some e
unless_some false y x e = cc

paired : (body : List ℕ) (o : Option (List ℕ)) (read : List ℕ × List ℕ) → option_map (λ chain. (body, chain)) o ≡ Some read → (o ≡ Some read.1) × (body ≡ read.0)
paired body None read e = never_some e
paired body (Some x) read e =
    let p : read ≡ (body, x) = cc in
    (ap (λ (r : List ℕ × List ℕ). Some r.1) (sym p), sym (ap (λ (r : List ℕ × List ℕ). r.0) p))

-- the class fits, and the chaining value is the one after this body
pub record Read (cipher : Algorithm) (s : Session) (plain : Bool) (c : Apdu) (read : List ℕ × List ℕ) : Type 0 where
  pub class : takes_class plain c.class s.level ≡ true
  pub chain : chain_after cipher s c read.0 s.level ≡ Some read.1

pub read_how : (cipher : Algorithm) (s : Session) (plain : Bool) (c : Apdu) (read : List ℕ × List ℕ) → unwrapped cipher s plain c s.level ≡ Some read → Read cipher s plain c read
read_how cipher s plain c read e =
    let t = via_and_then (text_in cipher s c.field s.level) (unwrapped_from cipher s plain c s.level) read e in
    let k = if_some (takes_class plain c.class s.level) _ read t.then in
    let b = via_and_then (body_in c.field t.first s.level) _ read k.1 in
    let p = paired b.first (chain_after cipher s c b.first s.level) read b.then in
    record { class = k.0; chain = ap (λ (body : List ℕ). chain_after cipher s c body s.level) (sym p.1) ∙ p.0 }

-- a right code is the command's, and stands in its data field
pub record Right (cipher : Algorithm) (s : Session) (c : Apdu) (body code : List ℕ) : Type 0 where
  pub made : code ≡ command_code cipher.enc s.keys.mac s.chain c.instruction c.p1 c.p2 body
  pub shown : bytes_eq (code_in c.field) code ≡ true

pub code_right : (cipher : Algorithm) (s : Session) (c : Apdu) (body code : List ℕ) → right_code cipher s c body ≡ Some code → Right cipher s c body code
code_right cipher s c body code e =
    let v = via_and_then (code_for cipher s c.instruction c.p1 c.p2 body) _ code e in
    let k = if_some (bytes_eq (code_in c.field) v.first) (Some v.first) code v.then in
    let same = some_same v.first code k.1 in
    record {
      made = sym (unless_some _ _ v.first v.is ∙ same);
      shown = ap (λ (x : List ℕ). bytes_eq (code_in c.field) x) (sym same) ∙ k.0;
    }

-- one message more: its code starts from the one before
code_over_more : (cipher : Algorithm) (key : List ℕ) (ms : List Message) (m : Message) → code_over cipher.enc key (ms ++ m ∷ []) ≡ code_from cipher.enc key (code_over cipher.enc key ms) m
unfolding code_over
code_over_more cipher key ms m = fold_push (code_from cipher.enc key) zeros ms m

-- the chaining value after a command is the code over the messages found right
coded_chain : (cipher : Algorithm) (s : Session) (c : Apdu) (ms : List Message) (read : List ℕ × List ℕ) → s.chain ≡ code_over cipher.enc s.keys.mac ms → right_code cipher s c read.0 ≡ Some read.1 → read.1 ≡ code_over cipher.enc s.keys.mac (ms ++ message c read.0 ∷ [])
coded_chain cipher s c ms read chain e =
    let r = code_right cipher s c read.0 read.1 e in
    r.made
    ∙ ap (λ (x : List ℕ). code_from cipher.enc s.keys.mac x (message c read.0)) chain
    ∙ sym (code_over_more cipher s.keys.mac ms (message c read.0))

pub chain_over : (cipher : Algorithm) (s : Session) (c : Apdu) (ms : List Message) (read : List ℕ × List ℕ) (level : Level) → s.chain ≡ code_over cipher.enc s.keys.mac ms → chain_after cipher s c read.0 level ≡ Some read.1 → read.1 ≡ code_over cipher.enc s.keys.mac (found_right level ms (message c read.0))
chain_over cipher s c ms read Plain chain e = sym (some_same s.chain read.1 e) ∙ chain
chain_over cipher s c ms read Mac chain e = coded_chain cipher s c ms read chain e
chain_over cipher s c ms read MacEncrypted chain e = coded_chain cipher s c ms read chain e
