-- What holds of a value where there is one.
use Rattle.std.proofs.Common.{◌≡◌, Option, Some, None, IfSome, refl}

pub if_all : {X : Type 0} (Q : X → Type 0) (o : Option X) → ((x : X) → Q x) → IfSome o Q
if_all Q None all = tt
if_all Q (Some x) all = all x

pub if_some : {X : Type 0} (Q R : X → Type 0) (o : Option X) → ((x : X) → o ≡ Some x → Q x → R x) → IfSome o Q → IfSome o R
if_some Q R None all is = tt
if_some Q R (Some x) all is = all x refl is

pub if_both : {X : Type 0} (Q R : X → Type 0) (o : Option X) → IfSome o (λ x. Q x → R x) → IfSome o Q → IfSome o R
if_both Q R None all is = tt
if_both Q R (Some x) all is = all is
