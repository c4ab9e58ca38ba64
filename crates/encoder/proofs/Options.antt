-- What holds of the value that an option may hold, and of each two that two options may hold.
use Rattle.std.proofs.Common.{◌≡◌, Bool, true, false, cond, Some, None, Option, IfSome}
use Rattle.std.proofs.lemmas.Bool.{cond_both}

pub if_tested : {X : Type 0} (P : X → Type 0) (b : Bool) (o : Option X) → (b ≡ true → IfSome o P) → IfSome (cond b o None) P
if_tested P b o h = cond_both b o None (λ o. IfSome o P) h (λ _. tt)

pub if_always : {X : Type 0} (P : X → Type 0) (o : Option X) → ((x : X) → P x) → IfSome o P
if_always P None h = tt
if_always P (Some x) h = h x

abbrev pub Both : {X : Type 0} → (X → X → Type 0) → Option X → Option X → Type 0
Both P o p = IfSome o (λ x. IfSome p (P x))

pub both_if : {X : Type 0} (P : X → X → Type 0) (b c : Bool) (o p : Option X) → Both P o p → Both P (cond b o None) (cond c p None)
both_if P true true o p h = h
both_if P true false None p h = tt
both_if P true false (Some x) p h = tt
both_if P false c o p h = tt

pub both_same : {X : Type 0} (P : X → X → Type 0) (o : Option X) → ((x : X) → P x x) → Both P o o
both_same P None h = tt
both_same P (Some x) h = h x
