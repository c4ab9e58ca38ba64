-- What the words of a line stand for.
use Rattle.std.specs.Prelude.{ℕ, ◌+◌, Bool, true, false, List, [], ◌∷◌, Some, None, codes, Option}
use Rattle.text.specs.Tables.{lookup}
use Rattle.script.specs.declared.mnemonic.Mnemonic.{Mnemonic}
use Rattle.script.specs.declared.mnemonic.Mnemonic.TheVariants.{Jcc, Jmp, Call, Plain, Memory, RawPlain, RawMemory, Other}
use Rattle.bodies.specs.declared.PlainKind.{PlainKind}
use Rattle.bodies.specs.declared.PlainKind.TheVariants.{Nop, Ret, Int3, Push, Pop, Step}
use Rattle.bodies.specs.declared.MemoryKind.TheVariants.{Load, Store, Address, Compare}

abbrev pub conditions : List (List ℕ)
conditions =
    codes "jo" ∷ codes "jno" ∷ codes "jb" ∷ codes "jae" ∷ codes "je" ∷ codes "jne" ∷ codes "jbe" ∷ codes "ja"
    ∷ codes "js" ∷ codes "jns" ∷ codes "jp" ∷ codes "jnp" ∷ codes "jl" ∷ codes "jge" ∷ codes "jle" ∷ codes "jg" ∷ []

-- names with their places, from n on
abbrev pub numbered : ℕ → List (List ℕ) → List (List ℕ × ℕ)
numbered n [] = []
numbered n (name ∷ names) = (name, n) ∷ numbered (n + 1) names

abbrev pub condition_of : List ℕ → Option ℕ
condition_of word = lookup (numbered 0 conditions) word

abbrev pub mnemonics : List (List ℕ × Mnemonic)
mnemonics =
    (codes "jmp", Jmp) ∷ (codes "call", Call)
    ∷ (codes "nop", Plain Nop) ∷ (codes "ret", Plain Ret) ∷ (codes "int3", Plain Int3)
    ∷ (codes "push", Plain Push) ∷ (codes "pop", Plain Pop) ∷ (codes "step", Plain Step)
    ∷ (codes "load", Memory Load) ∷ (codes "store", Memory Store)
    ∷ (codes "address", Memory Address) ∷ (codes "compare", Memory Compare)
    ∷ (codes "plain", RawPlain) ∷ (codes "memory", RawMemory) ∷ (codes "other", Other) ∷ []

-- a jump on a condition where the word is a condition's name, else the mnemonic that is so called
abbrev pub conditional : Option ℕ → Option Mnemonic → Option Mnemonic
conditional (Some c) m = Some (Jcc c)
conditional None m = m

abbrev pub mnemonic_of : List ℕ → Option Mnemonic
mnemonic_of word = conditional (condition_of word) (lookup mnemonics word)

abbrev pub has_register : PlainKind → Bool
has_register Nop = false
has_register Ret = false
has_register Int3 = false
has_register Push = true
has_register Pop = true
has_register Step = true
