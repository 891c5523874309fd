-- What a terminal wraps, a card understands.
use Rattle.std.specs.Prelude.{◌≡◌, ℕ, ◌<◌, true, List, length, take, Some, None, Option}
use Rattle.apdu.specs.Apdu.{Apdu, apdu}
use Rattle.cipher.specs.Blocks.{Algorithm, Bytes}
use Rattle.scp01.specs.declared.Session.{Session}
use Rattle.scp01.specs.Inside.{unwrapped}
use Rattle.scp01.specs.Wrapping.{wrapped}

-- two commands have the same instruction, P1, P2 and Le
pub record SameHeader (c d : Apdu) : Type 0 where
  pub instruction : c.instruction ≡ d.instruction
  pub p1 : c.p1 ≡ d.p1
  pub p2 : c.p2 ≡ d.p2
  pub le : c.le ≡ d.le

-- bytes that a card reads as the same command, with the same body, and that leave it the same chaining value
pub record Understood (cipher : Algorithm) (s : Session) (c : Apdu) (bytes chain : List ℕ) : Type 0 where
  pub sent : Apdu
  pub read : apdu bytes ≡ Some sent
  pub header : SameHeader sent c
  pub body : unwrapped cipher s true sent s.level ≡ Some (c.field, chain)

-- what a call wrote, if it did, is understood
abbrev pub UnderstoodIn : Algorithm → Session → Apdu → List ℕ → Option (ℕ × List ℕ) → Type 0
UnderstoodIn cipher s c area None = Unit {0}
UnderstoodIn cipher s c area (Some w) = Understood cipher s c (take w.0 area) w.1

-- session keys of sixteen bytes and a chaining value of eight
pub record Keyed (s : Session) : Type 0 where
  pub enc : Bytes 16 s.keys.enc
  pub mac : Bytes 16 s.keys.mac
  pub chain : Bytes 8 s.chain

-- a command of bytes
pub record Bytewise (c : Apdu) : Type 0 where
  pub instruction : c.instruction < 256
  pub p1 : c.p1 < 256
  pub p2 : c.p2 < 256
  pub field : Bytes (length c.field) c.field

-- what is wrapped is understood: with any cipher, at every level, in every session
abbrev pub Unwraps : Algorithm → Type 0
Unwraps cipher =
    (s : Session) (c : Apdu) (w : List ℕ × List ℕ) → Keyed s → Bytewise c → wrapped cipher s c ≡ Some w → Understood cipher s c w.0 w.1
