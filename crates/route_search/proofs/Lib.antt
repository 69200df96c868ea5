mod Small
mod Completions
mod Successors
mod Ties
mod Growing
mod Bound
mod Ending
