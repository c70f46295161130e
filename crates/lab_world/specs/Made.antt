-- What is made of the places so far.
use Rattle.std.specs.Prelude.{◌≡◌, List, [], map, length, true, Option, Some, None, Result, Ok}
use Rattle.std.specs.List.{list_all}
use Rattle.lab_defs_text.specs.Agreement.{FaultAgrees}
use Rattle.lab_defs_text.specs.Faults.{TextFault}
use Rattle.lab_defs_text.specs.Games as model
use Rattle.lab_defs_text.specs.Steps.{◌>>=◌, each}
use Rattle.lab_defs_text.specs.Assembly as assembly
use Rattle.lab_world.specs.declared.parts.AssembleFault.{AssembleFault}
use Rattle.lab_world.specs.declared.stages.NumberedPlaces.{NumberedPlaces}
use Rattle.lab_world.specs.declared.stages.MadePlaces.{MadePlaces}
use Rattle.lab_world.specs.Drafts.{assemble_fault}
use Rattle.lab_world.specs.Models.{place_model}
use Rattle.lab_world.specs.Wholes.{all_action_names, place_fits}

-- known places with a row for each joint action, in order
abbrev pub in_order : List assembly.KnownPlace → Result (List model.Place) TextFault
in_order ks = each assembly.placed ks >>= λ qs. each assembly.ordered qs

-- these are the places, by numbers of all the actions that stand in them
pub record AreNumbered (n : NumberedPlaces) (ms : List model.Place) : Type 0 where
  pub same : map (place_model n.actions) n.places.items ≡ ms
  pub names : n.actions ≡ all_action_names [] ms
  pub fits : list_all (place_fits (length n.actions)) n.places.items ≡ true

-- placed rows make places in order
pub record AllOrdered (n : NumberedPlaces) (qs : List assembly.PlacedPlace) : Type 0 where
  pub places : List model.Place
  pub in_order : each assembly.ordered qs ≡ Ok places
  pub numbered : AreNumbered n places

-- likewise, or they have this fault where they are put in order
abbrev pub OrderedBy : Option AssembleFault → NumberedPlaces → List assembly.PlacedPlace → Type 0
OrderedBy None n qs = AllOrdered n qs
OrderedBy (Some e) n qs = FaultAgrees (assemble_fault e) (each assembly.ordered qs)

abbrev pub AreOrdered : MadePlaces → List assembly.PlacedPlace → Type 0
AreOrdered m qs = OrderedBy m.missing m.numbered qs

-- known rows are placed
pub record AllPlaced (m : MadePlaces) (ks : List assembly.KnownPlace) : Type 0 where
  pub rows : List assembly.PlacedPlace
  pub placed : each assembly.placed ks ≡ Ok rows
  pub ordered : AreOrdered m rows

-- likewise, or they have this fault where they get their joint actions
abbrev pub PlacedBy : Option AssembleFault → MadePlaces → List assembly.KnownPlace → Type 0
PlacedBy None m ks = AllPlaced m ks
PlacedBy (Some e) m ks = FaultAgrees (assemble_fault e) (each assembly.placed ks)

-- what is made of known places: all of them, or the first fault of their rows
abbrev pub AreMade : MadePlaces → List assembly.KnownPlace → Type 0
AreMade m ks = PlacedBy m.extra m ks

-- likewise of places whose names are all known
pub record MadeOf (m : MadePlaces) (answer : Result (List assembly.KnownPlace) TextFault) : Type 0 where
  pub places : List assembly.KnownPlace
  pub known : answer ≡ Ok places
  pub made : AreMade m places

-- all known places, with no fault
pub record WholeOf (n : NumberedPlaces) (ks : List assembly.KnownPlace) : Type 0 where
  pub places : List model.Place
  pub made : in_order ks ≡ Ok places
  pub numbered : AreNumbered n places
