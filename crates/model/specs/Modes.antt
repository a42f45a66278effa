-- What differs between the plain and the watched machine (document 01, "The two machines"). The machine itself, Machine.antt, is one text.
-- "The plain machine is the same without tests of kind and right and without rights": in mode `plain` nothing is kept beside a cell or with an object,
-- no test of kind or right is made, and a value of the wrong kind is stuck.
use Rattle.std.specs.Prelude.{ℕ, Bool, true, false, ◌&&◌, List, eqb, leb}
use Rattle.std.proofs.Math.Option.{Option, none, some}
use Rattle.model.specs.Rights.{Rights, within, has, store_right}
use Rattle.model.specs.Qualified.{Qual, base, rights, element, is_integer, is_array, elements}
use Rattle.model.specs.Generic.{Bound, own, instance, settled, is_settled, is_enough}
use Rattle.model.specs.Rules.{amplifies}
use Rattle.model.specs.Outcome.{wrong_kind, missing_right, Res, ok, stop, stuck, ◌>>◌, ensure}

pub data Mode : Type 0 where
  plain watched : Mode

-- "keeps beside each filled cell its carried rights, and with each object its type and, for trays, its element QT"
abbrev pub Carried : Mode → Type 0
Carried plain = Unit {0}
Carried watched = Rights

abbrev pub ElementInfo : Mode → Type 0
ElementInfo plain = Unit {0}
ElementInfo watched = Qual

abbrev pub TypeInfo : Mode → Type 0
TypeInfo plain = Unit {0}
TypeInfo watched = ℕ

-- "The watched frame holds the settled set" (document 02, S-1)
abbrev pub SettledSet : Mode → Type 0
SettledSet plain = Unit {0}
SettledSet watched = Rights

abbrev pub settled_set : (m : Mode) → Rights → SettledSet m
settled_set plain r = tt
settled_set watched r = r

abbrev pub carried : (m : Mode) → Rights → Carried m
carried plain r = tt
carried watched r = r

abbrev pub element_info : (m : Mode) → Qual → ElementInfo m
element_info plain q = tt
element_info watched q = q

abbrev pub type_info : (m : Mode) → ℕ → TypeInfo m
type_info plain t = tt
type_info watched t = t

-- what a value is: an integer, an array or a record; nothing where an object's name is no object's
pub data Kind (m : Mode) : Type 0 where
  integer_kind : Kind m
  array_kind : ElementInfo m → Kind m
  record_kind : TypeInfo m → Kind m
  no_kind : Kind m

-- ---- What the plain machine does not do

-- a value has not the kind due: "It is stuck where an integer is due and an object found, .."
unfoldable pub amiss : {A : Type 0} → Mode → Res A
amiss plain = stuck
amiss watched = stop wrong_kind

-- a test of kind
unfoldable pub demand : Mode → Bool → Res (Unit {0})
demand plain b = ok tt
demand watched b = ensure wrong_kind b

-- a test of a right: "Every test reads carried rights"
unfoldable pub licence : (m : Mode) → ℕ → Carried m → Res (Unit {0})
licence plain i r = ok tt
licence watched i r = ensure missing_right (has i r)

-- a record is of a type
unfoldable pub is_of : (m : Mode) → ℕ → TypeInfo m → Res (Unit {0})
is_of plain t u = ok tt
is_of watched t u = ensure wrong_kind (eqb u t)

-- "the value's type is the QT's base and, for a tray, the object's element equals the QT's"; S-3: "The watched machine's kind test for a tray follows the
-- same order, taken from the object's element"
unfoldable pub fits : Qual → Kind watched → Bool
fits q integer_kind = is_integer q
fits q (array_kind e) = is_array q && elements (has store_right (rights q)) e (element q)
fits q (record_kind t) = leb 2 t && eqb (base q) t
fits q no_kind = false

-- "Binding a value to a declared QT: .. another type, or unequal elements, 18; a declared right not carried, 19; else the cell carries the declared rights"
unfoldable pub bind : (m : Mode) → Qual → Kind m → Carried m → Res (Carried m)
bind plain q k r = ok tt
bind watched q k r = do
  ensure wrong_kind (fits q k)
  ensure missing_right (within (rights q) r)
  ok (rights q)

-- what ?R stands for in a frame: the bound's base with the frame's set; the plain machine reads no type
abbrev pub in_frame : (m : Mode) → Bound → SettledSet m → Qual
in_frame plain b s = own b
in_frame watched b s = instance b s

-- what a call settles ?R to: "watch stops there with 18 or 19, with kinds, reading a caller's ?R as its frame's set"
unfoldable pub settle_set : (m : Mode) → Bound → (used : Bool) → List Qual → Res (SettledSet m)
settle_set plain b used found = ok tt
settle_set watched b used found = do
  ensure wrong_kind (is_settled b used found)
  ensure missing_right (is_enough b found)
  ok (rights (settled b found))

-- "then, if its type and inner's base are the callee's owner (2 or more), it carries inner's rights, else it is bound to inner"
unfoldable pub is_record_of : ℕ → Kind watched → Bool
is_record_of o integer_kind = false
is_record_of o (array_kind e) = false
is_record_of o (record_kind t) = leb 2 o && eqb t o
is_record_of o no_kind = false

unfoldable pub raise_if : Bool → Qual → Kind watched → Rights → Res Rights
raise_if true inner k r = ok (rights inner)
raise_if false inner k r = bind watched inner k r

-- `inner` is as its record has it, for ?R "is never amplified", and `as_read` is what it is read as
unfoldable pub raise : (m : Mode) → (owner : ℕ) → (inner as_read : Qual) → Kind m → Carried m → Res (Carried m)
raise plain o inner q k r = ok tt
raise watched o inner q k r = raise_if (is_record_of o k && amplifies o inner) q k r

-- an array's cells are declared by its element
unfoldable pub bind_element : (m : Mode) → ElementInfo m → Kind m → Carried m → Res (Carried m)
bind_element plain e k r = ok tt
bind_element watched e k r = bind watched e k r

-- "A return binds to the result QT"; one without a result is no return of a value
unfoldable pub bind_result : (m : Mode) → Option Qual → Kind m → Carried m → Res (Carried m)
bind_result plain q k r = ok tt
bind_result watched none k r = stop wrong_kind
bind_result watched (some q) k r = bind watched q k r
