-- The form of a command, and the instructions that a card knows with the classes in which they are given.
use Rattle.std.specs.Prelude.{ℕ, ◌+◌, Bool, true, false, cond, ◌||◌, List, [], length, take, drop, Some, None, Option, ◌==◌, nat_lt, slice_index}
use Rattle.std.specs.Option.{option_map}
use Rattle.apdu.specs.declared.Command.{Command}
use Rattle.apdu.specs.declared.Instruction.{Instruction}
use Rattle.apdu.specs.declared.Instruction.TheVariants.{Select, InitializeUpdate, ExternalAuthenticate, Manage}
use Rattle.apdu.specs.declared.Management.{Management}
use Rattle.apdu.specs.declared.Management.TheVariants.{GetStatus, SetStatus, Install, Delete, PutKey}

-- class, instruction, P1, P2, the data field, and Le where there is one
pub record Apdu : Type 0 where
  pub class : ℕ
  pub instruction : ℕ
  pub p1 : ℕ
  pub p2 : ℕ
  pub field : List ℕ
  pub le : Option ℕ

abbrev pub meaning : Command → Apdu
meaning c = record { class = c.class; instruction = c.instruction; p1 = c.p1; p2 = c.p2; field = c.field.now; le = c.le }

abbrev pub headed : List ℕ → List ℕ → Option ℕ → Apdu
headed bs field le = record { class = slice_index bs 0; instruction = slice_index bs 1; p1 = slice_index bs 2; p2 = slice_index bs 3; field = field; le = le }

-- Lc bytes behind Lc, and perhaps Le
abbrev pub with_field : List ℕ → ℕ → Option Apdu
with_field bs lc =
    cond (lc == 0) None
    (cond (length bs == 5 + lc) (Some (headed bs (take lc (drop 5 bs)) None))
    (cond (length bs == 6 + lc) (Some (headed bs (take lc (drop 5 bs)) (Some (slice_index bs (5 + lc)))))
    None))

-- four bytes; then nothing, or Le, or Lc from 1 to 255 with Lc bytes and perhaps Le
abbrev pub apdu : List ℕ → Option Apdu
apdu bs =
    cond (nat_lt (length bs) 4) None
    (cond (length bs == 4) (Some (headed bs [] None))
    (cond (length bs == 5) (Some (headed bs [] (Some (slice_index bs 4))))
    (with_field bs (slice_index bs 4))))

-- the channel commands
abbrev pub management_of : ℕ → Option Management
management_of ins =
    cond (ins == 0xF2) (Some GetStatus)
    (cond (ins == 0xF0) (Some SetStatus)
    (cond (ins == 0xE6) (Some Install)
    (cond (ins == 0xE4) (Some Delete)
    (cond (ins == 0xD8) (Some PutKey)
    None))))

-- those that change what the card holds
abbrev pub changing : Management → Bool
changing GetStatus = false
changing SetStatus = true
changing Install = true
changing Delete = true
changing PutKey = true

-- the instruction that a byte names, where `named` are the card's commands inside a channel
abbrev pub instruction_of : {M : Type 0} → (ℕ → Option M) → ℕ → Option (Instruction M)
instruction_of named ins =
    cond (ins == 0xA4) (Some Select)
    (cond (ins == 0x50) (Some InitializeUpdate)
    (cond (ins == 0x82) (Some ExternalAuthenticate)
    (option_map Manage (named ins))))

-- the class in which an instruction is given
abbrev pub owns : {M : Type 0} → Instruction M → ℕ → Bool
owns Select cla = cla == 0x00
owns InitializeUpdate cla = cla == 0x80
owns ExternalAuthenticate cla = cla == 0x84
owns (Manage i) cla = cla == 0x80 || cla == 0x84

abbrev pub known_class : ℕ → Bool
known_class cla = cla == 0x00 || (cla == 0x80 || cla == 0x84)
