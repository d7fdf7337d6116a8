-- The mathematics of leximin-fair sheets. Theorems.antt has what others cite; the other files work towards it.

-- numbers, truth values, decisions and lists
pub mod Sums
pub mod Bools
pub mod Decide
pub mod Lists
-- exchange paths: by layers, and played
pub mod Walks
pub mod Plays
-- what a sheet has the most of, where there is no path of some kind
pub mod Cut
pub mod Threshold
pub mod Lex
pub mod Potential
pub mod Unique
-- profiles, and levels in whole units
pub mod Sorting
pub mod Units
pub mod Levels
pub mod Wanted
pub mod Profiles
-- the theorems, from the work above
pub mod Optimal
pub mod Progress
pub mod Measure
pub mod Settle
pub mod Certificate
-- by the used entries alone
pub mod Alike
-- what others cite
pub mod Theorems
-- the standard sheet
pub mod StandardTotals
pub mod StandardCut
pub mod StandardOrder
pub mod StandardLists
pub mod StandardCycle
pub mod StandardSearch
pub mod StandardSets
pub mod StandardAlike
pub mod Standard
-- wanted totals
pub mod Even
pub mod Aimed
pub mod WantedTotals
-- that the definitions are met
pub mod Examples
pub mod StandardExamples
-- for the functions of src/
pub mod Weights
pub mod Products
