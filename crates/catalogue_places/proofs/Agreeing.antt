-- Flaws that are found exactly if a reading gives nothing, put together as readings are.
use Rattle.std.proofs.Common.{Bool, true, false, cond, ◌&&◌, is_some, Option, Some, None, option_map, option_and_then}
use Rattle.std.specs.Option.{option_or}
use Rattle.catalogue_places.specs.Flaws.{Agrees, within}
use Rattle.catalogue_places.specs.declared.flaws.Flaw.{Flaw}
use Rattle.catalogue_places.specs.declared.flaws.Inside.{Inside}

-- one reading, and then another
pub both : {F A B : Type 0} (f g : Option F) (o : Option A) (k : A → Option B) → Agrees f o → ((a : A) → Agrees g (k a)) → Agrees (option_or f g) (option_and_then k o)
both None g None k h next = absurd h
both None g (Some a) k h next = next a
both (Some f) g None k h next = tt
both (Some f) g (Some a) k h next = absurd h

-- two readings, looked at in the other order
pub swapped : {F A B C : Type 0} (f g : Option F) (o : Option A) (p : Option B) (k : A → B → C) → Agrees f p → Agrees g o → Agrees (option_or f g) (option_and_then (λ a. option_and_then (λ b. Some (k a b)) p) o)
swapped None None None p k h i = absurd i
swapped None None (Some a) None k h i = absurd h
swapped None None (Some a) (Some b) k h i = tt
swapped None (Some g) None p k h i = tt
swapped None (Some g) (Some a) p k h i = absurd i
swapped (Some f) g None p k h i = tt
swapped (Some f) g (Some a) None k h i = tt
swapped (Some f) g (Some a) (Some b) k h i = absurd h

-- the last of several
pub alone : {F A : Type 0} (f : Option F) (o : Option A) → Agrees f o → Agrees (option_or f None) o
alone None None h = h
alone None (Some a) h = h
alone (Some f) None h = h
alone (Some f) (Some a) h = h

-- a reading under a test
pub under : {F A : Type 0} (b : Bool) (x : F) (g : Option F) (rest : Option A) → Agrees g rest → Agrees (option_or (cond b None (Some x)) g) (cond b rest None)
under true x g rest h = h
under false x g rest h = tt

pub under_both : {F A : Type 0} (a b : Bool) (x y : F) (g : Option F) (rest : Option A) → Agrees g rest → Agrees (option_or (cond a None (Some x)) (option_or (cond b None (Some y)) g)) (cond (a && b) rest None)
under_both true true x y g rest h = h
under_both true false x y g rest h = tt
under_both false b x y g rest h = tt

pub branch : {F A : Type 0} (b : Bool) (f g : Option F) (o p : Option A) → Agrees f o → Agrees g p → Agrees (cond b f g) (cond b o p)
branch true f g o p h i = h
branch false f g o p h i = i

-- a member by its reading
pub reads : {F A : Type 0} (o : Option A) (x : F) → Agrees (cond (is_some o) None (Some x)) o
reads None x = tt
reads (Some a) x = tt

pub kept : {F A B : Type 0} (f : Option F) (o : Option A) (k : A → B) → Agrees f o → Agrees f (option_map k o)
kept None None k h = h
kept None (Some a) k h = h
kept (Some f) None k h = h
kept (Some f) (Some a) k h = h

pub kept_then : {F A B : Type 0} (f : Option F) (o : Option A) (k : A → B) → Agrees f o → Agrees f (option_and_then (λ a. Some (k a)) o)
kept_then None None k h = h
kept_then None (Some a) k h = h
kept_then (Some f) None k h = h
kept_then (Some f) (Some a) k h = h

-- three readings
pub three : {F A B C D : Type 0} (f g h : Option F) (o : Option A) (p : Option B) (q : Option C) (k : A → B → C → D) → Agrees f o → Agrees g p → Agrees h q
    → Agrees (option_or f (option_or g (option_or h None))) (option_and_then (λ a. option_and_then (λ b. option_and_then (λ c. Some (k a b c)) q) p) o)
three {D = D} f g h o p q k i j l =
    both {B = D} f (option_or g (option_or h None)) o (λ a. option_and_then (λ b. option_and_then (λ c. Some (k a b c)) q) p) i
    (λ a. both {B = D} g (option_or h None) p (λ b. option_and_then (λ c. Some (k a b c)) q) j (λ b. alone h (option_and_then (λ c. Some (k a b c)) q) (kept_then h q (k a b) l)))

-- a flaw with its object
pub inside : {A : Type 0} (i : Inside) (f : Option Flaw) (o : Option A) → Agrees f o → Agrees (within i f) o
inside i None None h = h
inside i None (Some a) h = h
inside i (Some f) None h = h
inside i (Some f) (Some a) h = h
