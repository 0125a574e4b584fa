-- That the values of variables are known is a proposition.
use Rattle.std.specs.Prelude.{ℕ, List, Vec}
use Rattle.sg_value.specs.Known.{Known}
use Rattle.std.specs.Global.{Global}
use Rattle.sg_value.specs.declared.value.Value.{Value}
use Rattle.std.proofs.Props.{props}
use Rattle.sg_value.specs.Data.{int, truth, text, list, ratio, fail, semigroup, ideal, Items, none, item, EachThing, EachThingOfAll}
use Rattle.sg_value.specs.Plain.{Named, IsKnown, Places, Stored}
use Rattle.sg_eval.specs.State.{AreKnown, AreKnownIn}
use Rattle.sg_eval.specs.declared.variable.Variable.{Variable}

mutual
  each_known-prop : (names : Named) (d : Stored) → IsProp (EachThing (IsKnown names) d)
  each_known-prop names (int z) = Prim.hlevel props
  each_known-prop names (truth b) = Prim.hlevel props
  each_known-prop names (text bs) = Prim.hlevel props
  each_known-prop names (list ds) = all_known-prop names ds
  each_known-prop names (ratio p q) = Prim.hlevel props
  each_known-prop names fail = Prim.hlevel props
  each_known-prop names (semigroup i) = Prim.hlevel props
  each_known-prop names (ideal i) = Prim.hlevel props

  all_known-prop : (names : Named) (ds : Items Places) → IsProp (EachThingOfAll (IsKnown names) ds)
  all_known-prop names none = Prim.hlevel props
  all_known-prop names (item d ds) = Prim.hlevel (props, each_known-prop names d, all_known-prop names ds)

pub are_known-prop : (names : Known) (es : List (Vec ℕ Global × Value)) (ws : List Variable) → IsProp (AreKnownIn names es × AreKnown names ws)
are_known-prop names es ws = Prim.hlevel (props, each_known-prop)
