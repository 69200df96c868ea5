mod FewerMarks
mod Forced
mod Choices
mod KeptRoutes
mod Tallies
mod Onward
mod Carriers
mod WorkedDives
