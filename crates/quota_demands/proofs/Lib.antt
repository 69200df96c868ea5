mod NetRows
mod Bounding
