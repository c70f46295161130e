mod ChildLemmas
mod LevelLemmas
mod ParentLemmas
mod PayoffLemmas
mod UnitLemmas
mod SizeLemmas
mod ChanceLemmas
mod BirthLemmas
mod FaultLemmas
mod StepLemmas
mod StepItems
mod TraceLemmas
mod ListLemmas
mod KeyedLemmas
mod AlikeLemmas
pub mod CallerLemmas
