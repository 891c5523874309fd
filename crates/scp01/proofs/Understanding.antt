-- What a terminal wraps, a card unwraps. Assumes what is asked of a cipher.
use Rattle.std.proofs.Common.{◌≡◌, ℕ, zero, suc, ◌+◌, ◌-◌, ◌*◌, ◌/◌, ◌%◌, ◌<◌, ◌≤◌, Bool, true, false, cond, eqb, leb, List, [], ◌∷◌, ◌++◌, length, get_or, replicate, Some, None, sym, refl, ap, ◌∙◌, arith, length-append}
use Rattle.std.specs.Str.{bytes_eq}
use Rattle.std.proofs.lemmas.Slice.Eq.{bytes_eq-Decides}
use Rattle.std.proofs.lemmas.List.{take_at, drop_at}
use Rattle.std.proofs.lemmas.Bool.{le-leb, le-ltb, leb-true, eq-eqb, and_parts}
use Rattle.apdu.specs.Apdu.{Apdu, apdu}
use Rattle.cipher.specs.Blocks.{Algorithm, Direction, Bytes, Undoes, zeros}
use Rattle.cipher.specs.Cbc.{cbc_deciphered}
use Rattle.cipher.specs.Mac.{blocks}
use Rattle.cipher.proofs.Chains.{bytes_mac, chain_undone, length_enciphered, small_zeros, small_pad}
use Rattle.cipher.proofs.Xors.{small_take, small_append}
use Rattle.scp01.specs.declared.Level.{Level}
use Rattle.scp01.specs.declared.Level.TheVariants.{Plain, Mac, MacEncrypted}
use Rattle.scp01.specs.declared.Session.{Session}
use Rattle.scp01.specs.Inside.{closing, body_text, said, body_of, before_code, code_in, text_in, body_in, right_code, chain_after, takes_class, unwrapped}
use Rattle.scp01.specs.Session.{coded}
use Rattle.scp01.specs.Wrapping.{longest_body, enciphered, code_of, sealed_with, sent_at, chain_sent, wrappable}
use Rattle.scp01.specs.Understanding.{SameHeader, Keyed, Bytewise, Unwraps}
use Rattle.scp01.proofs.Reading.{read_back}
use Rattle.scp01.proofs.Sending.{length_text}

-- A data field that ends in a code.

before_code_is : (body code : List ℕ) → length code ≡ 8 → before_code (body ++ code) ≡ body
before_code_is body code long = take_at body code (length (body ++ code) - 8) (simp length-append (omega arith))

code_in_is : (body code : List ℕ) → length code ≡ 8 → code_in (body ++ code) ≡ code
code_in_is body code long = drop_at body code (length (body ++ code) - 8) (simp length-append (omega arith))

same : (xs : List ℕ) → bytes_eq xs xs ≡ true
same xs = (bytes_eq-Decides xs xs).1 refl

-- A body's text says the body.

pub says : (body : List ℕ) → 1 ≤ length body → length body ≤ 239 → body_of (body_text body) ≡ Some body
says body some few =
    let back : said (body_text body) ≡ body = take_at body (closing (length body + 1)) (length body) refl in
    let least = le-leb 1 (length body) some in
    let most = le-leb (length body) 239 few in
    let text = same (body_text body) in
    rw (back, least, most, text)

-- the steps of unwrapping, one after another
pub unwrapped_by : (cipher : Algorithm) (s : Session) (plain : Bool) (c : Apdu) (level : Level) (text body chain : List ℕ) → text_in cipher s c.field level ≡ Some text → takes_class plain c.class level ≡ true → body_in c.field text level ≡ Some body → chain_after cipher s c body level ≡ Some chain → unwrapped cipher s plain c level ≡ Some (body, chain)
unwrapped_by cipher s plain c level text body chain t k b h = rw (t, k, b, h)

-- The code is eight bytes.

small_cons : (x : ℕ) (xs : List ℕ) → x < 256 → ((i : ℕ) → get_or xs i 0 < 256) → (i : ℕ) → get_or (x ∷ xs) i 0 < 256
small_cons x xs h t zero = h
small_cons x xs h t (suc i) = t i

bytes_cons : {n : ℕ} {xs : List ℕ} (x : ℕ) → x < 256 → Bytes n xs → Bytes (suc n) (x ∷ xs)
bytes_cons {n} {xs} x h b = record { long = ap (λ m. suc m) b.long; small = small_cons x xs h b.small }

bytes_coded : (ins p1 p2 : ℕ) (body : List ℕ) → ins < 256 → p1 < 256 → p2 < 256 → length body ≤ 247 → Bytes (length body) body → Bytes (length (coded ins p1 p2 body)) (coded ins p1 p2 body)
bytes_coded ins p1 p2 body i p q few b =
    let class : 0x84 < 256 = omega arith in
    let lc : length body + 8 < 256 = omega arith in
    bytes_cons 0x84 class (bytes_cons ins i (bytes_cons p1 p (bytes_cons p2 q (bytes_cons (length body + 8) lc b))))

pub code_long : (cipher : Algorithm) → Undoes cipher.enc cipher.dec → (s : Session) (c : Apdu) → Keyed s → Bytewise c → length c.field ≤ 247 → length (code_of cipher s c) ≡ 8
code_long cipher laws s c k b few =
    (bytes_mac cipher.enc cipher.dec laws s.keys.mac s.chain _ k.mac k.chain (bytes_coded c.instruction c.p1 c.p2 c.field b.instruction b.p1 b.p2 few b.field)).long

-- A text is whole blocks of bytes, and comes back.

bytes_text : (body : List ℕ) → length body ≤ 239 → Bytes (length body) body → Bytes ((length body + 8) / 8 * 8) (body_text body)
bytes_text body few b =
    let n : length body < 256 = omega arith in
    let close = small_take ((8 - (length body + 1) % 8) % 8) (0x80 ∷ replicate 7 0) (small_pad 7) in
    record { long = length_text body; small = small_cons _ _ n (small_append body (closing (length body + 1)) b.small close) }

bytes_zeros : Bytes 8 zeros
bytes_zeros = record { long = refl; small = small_zeros 8 }

-- the enciphered text of a body that is not empty
pub enciphered_long : (enc dec : Direction) → Undoes enc dec → (key body : List ℕ) → Bytes 16 key → 1 ≤ length body → length body ≤ 239 → Bytes (length body) body → length (enciphered enc key body) ≡ (length body + 8) / 8 * 8
enciphered_long enc dec laws key [] pk some few b = absurd (omega arith)
enciphered_long enc dec laws key (x ∷ xs) pk some few b =
    length_enciphered enc dec laws key zeros (body_text (x ∷ xs)) ((length (x ∷ xs) + 8) / 8) pk bytes_zeros (bytes_text (x ∷ xs) few b)

-- what stands for a body at level 03: some blocks, which are deciphered to a text that says the body
record Opens (dec : Direction) (key body shut : List ℕ) : Type 0 where
  text : List ℕ
  whole : length shut % 8 ≡ 0
  few : length shut ≤ 240
  back : cbc_deciphered (dec key) zeros shut ≡ text
  says : (field : List ℕ) → body_in field text MacEncrypted ≡ Some body

opens : (enc dec : Direction) → Undoes enc dec → (key body : List ℕ) → Bytes 16 key → length body ≤ 239 → Bytes (length body) body → Opens dec key body (enciphered enc key body)
unfolding blocks
opens enc dec laws key [] pk few b = record { text = []; whole = refl; few = omega arith; back = refl; says = λ field. refl }
opens enc dec laws key (x ∷ xs) pk few b =
    let body = x ∷ xs in
    let n = (length body + 8) / 8 in
    let text = bytes_text body few b in
    let long = enciphered_long enc dec laws key body pk (omega arith) few b in
    record {
      text = body_text body;
      whole = omega (arith, long);
      few = omega (arith, long);
      back = chain_undone enc dec laws key zeros (body_text body) n pk bytes_zeros text;
      says = λ field. says body (omega arith) few;
    }

-- Each level.

-- the code at the end of the data field is the right one
right : (cipher : Algorithm) (s : Session) (c : Apdu) (body : List ℕ) → length (code_of cipher s c) ≡ 8 → length c.field ≤ 247 → right_code cipher s (sealed_with c body (code_of cipher s c)) c.field ≡ Some (code_of cipher s c)
right cipher s c body long few =
    let room = le-ltb 247 (length c.field) few in
    let stands = code_in_is body (code_of cipher s c) long in
    let found = same (code_of cipher s c) in
    rw (room, stands, found)

enough : (body code : List ℕ) → length code ≡ 8 → leb 8 (length (body ++ code)) ≡ true
enough body code long = le-leb 8 (length (body ++ code)) (simp length-append (omega arith))

with_code : (cipher : Algorithm) (s : Session) (c : Apdu) → length (code_of cipher s c) ≡ 8 → length c.field ≤ 247 → unwrapped cipher s true (sent_at cipher s c Mac) Mac ≡ Some (c.field, code_of cipher s c)
with_code cipher s c long few =
    let e = enough c.field (code_of cipher s c) long in
    let b = before_code_is c.field (code_of cipher s c) long in
    let body : body_in (c.field ++ code_of cipher s c) [] Mac ≡ Some c.field = rw (e, b) in
    unwrapped_by cipher s true (sent_at cipher s c Mac) Mac [] c.field (code_of cipher s c) refl refl body (right cipher s c c.field long few)

enciphered_with_code : (cipher : Algorithm) (s : Session) (c : Apdu) → length (code_of cipher s c) ≡ 8 → length c.field ≤ 247 → Opens cipher.dec s.keys.enc c.field (enciphered cipher.enc s.keys.enc c.field) → unwrapped cipher s true (sent_at cipher s c MacEncrypted) MacEncrypted ≡ Some (c.field, code_of cipher s c)
enciphered_with_code cipher s c long few o =
    let shut = enciphered cipher.enc s.keys.enc c.field in
    let e = enough shut (code_of cipher s c) long in
    let b = before_code_is shut (code_of cipher s c) long in
    let w = eq-eqb (length shut % 8) 0 o.whole in
    let m = le-leb (length shut) 240 o.few in
    let d = o.back in
    let text : text_in cipher s (shut ++ code_of cipher s c) MacEncrypted ≡ Some o.text = rw (e, b, w, m, d) in
    unwrapped_by cipher s true (sent_at cipher s c MacEncrypted) MacEncrypted o.text c.field (code_of cipher s c) text refl (o.says (shut ++ code_of cipher s c)) (right cipher s c shut long few)

-- every level
unwrapped_at : (cipher : Algorithm) → Undoes cipher.enc cipher.dec → (s : Session) (c : Apdu) → Keyed s → Bytewise c → (level : Level) → eqb c.class 0x80 ≡ true → length c.field ≤ longest_body level → unwrapped cipher s true (sent_at cipher s c level) level ≡ Some (c.field, chain_sent cipher s c level)
unwrapped_at cipher laws s c k b Plain bare few = unwrapped_by cipher s true c Plain [] c.field s.chain refl bare refl refl
unwrapped_at cipher laws s c k b Mac bare few = with_code cipher s c (code_long cipher laws s c k b few) few
unwrapped_at cipher laws s c k b MacEncrypted bare few =
    let less : length c.field ≤ 247 = omega arith in
    enciphered_with_code cipher s c (code_long cipher laws s c k b less) less (opens cipher.enc cipher.dec laws s.keys.enc c.field k.enc few b.field)

-- what is sent has the command's own header and Le
same_header : (cipher : Algorithm) (s : Session) (c : Apdu) (level : Level) → SameHeader (sent_at cipher s c level) c
same_header cipher s c Plain = record { instruction = refl; p1 = refl; p2 = refl; le = refl }
same_header cipher s c Mac = record { instruction = refl; p1 = refl; p2 = refl; le = refl }
same_header cipher s c MacEncrypted = record { instruction = refl; p1 = refl; p2 = refl; le = refl }

-- where there is something, the test was passed
passed : {X : Type 0} (b : Bool) (x y : X) → cond b (Some x) None ≡ Some y → (b ≡ true) × (x ≡ y)
passed true x y e = (refl, cc)
passed false x y e = absurd (let z : ◌≡◌ {A = ℕ} 0 1 = cc in omega arith)

pub unwraps : (cipher : Algorithm) → Undoes cipher.enc cipher.dec → Unwraps cipher
unwraps cipher laws s c w k b e =
    let p = passed (wrappable c s.level) _ w e in
    let parts = and_parts (eqb c.class 0x80) (leb (length c.field) (longest_body s.level)) p.0 in
    let few = leb-true (length c.field) (longest_body s.level) parts.1 in
    let sent = sent_at cipher s c s.level in
    record {
      sent = sent;
      read = ap (λ v. apdu v.0) (sym p.1) ∙ read_back sent;
      header = same_header cipher s c s.level;
      body = unwrapped_at cipher laws s c k b s.level parts.0 few ∙ ap (λ v. Some (c.field, v.1)) p.1;
    }
