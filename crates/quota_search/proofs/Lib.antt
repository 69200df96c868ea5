mod NodeEnds
mod Ending
mod KeptBranches
mod Outcomes
