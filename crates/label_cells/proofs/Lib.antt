mod BlockSteps
mod Cutting
mod Chunks
